-- Each form is the text that the definition chooses.
use Rattle.tableshow.proofs.Filling.{gaps}
use Rattle.tableshow.proofs.rows.gap_form.Goals as goal

pub returns-then-items-eq3 : goal.returns-then-items-eq3
returns-then-items-eq3 c = search gaps

pub returns : goal.returns
returns c = search gaps
