-- The number is put behind the space.
use Rattle.tableread.proofs.Lines.{parts}
use Rattle.tableread.proofs.line.put_spaced.Goals as goal

pub returns : goal.returns
returns c = search parts
