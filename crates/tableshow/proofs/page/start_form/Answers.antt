-- Each form is the text that the definition chooses.
use Rattle.tableshow.proofs.Filling.{lines}
use Rattle.tableshow.proofs.page.start_form.Goals as goal

pub returns-then-start-eq-NONE : goal.returns-then-start-eq-NONE
returns-then-start-eq-NONE c = search lines

pub returns : goal.returns
returns c = search lines
