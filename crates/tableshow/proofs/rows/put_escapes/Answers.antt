-- What was shown is the text of the number that a call answered.
use Rattle.tableshow.proofs.Parts.{parts}
use Rattle.tableshow.proofs.rows.put_escapes.Goals as goal

pub returns : goal.returns
returns c = search parts
