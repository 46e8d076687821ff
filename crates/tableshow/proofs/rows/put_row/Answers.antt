-- What was shown is the text of the numbers that calls answered.
use Rattle.tableshow.proofs.Parts.{parts}
use Rattle.tableshow.proofs.rows.put_row.Goals as goal

pub returns-then-count-eq0 : goal.returns-then-count-eq0
returns-then-count-eq0 c = search parts

pub returns : goal.returns
returns c = search parts
