-- What was shown is the text of the numbers that calls answered.
use Rattle.tableshow.proofs.Parts.{parts}
use Rattle.tableshow.proofs.page.put_refusal.Goals as goal

pub returns : goal.returns
returns c = search parts
