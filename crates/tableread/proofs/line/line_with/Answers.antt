-- The word, the numbers and the end are put one behind the other.
use Rattle.tableread.proofs.Lines.{parts}
use Rattle.tableread.proofs.line.line_with.Goals as goal

pub returns : goal.returns
returns c = search parts
