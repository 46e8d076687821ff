-- What was shown is the text of the numbers that calls answered.
use Rattle.tableshow.proofs.Parts.{parts}
use Rattle.tableshow.proofs.page.put_accept.Goals as goal

pub returns-then-accept-eq-NONE : goal.returns-then-accept-eq-NONE
returns-then-accept-eq-NONE c = search parts

pub returns : goal.returns
returns c = search parts
