-- Each form is the text that the definition chooses.
use Rattle.tableshow.proofs.Filling.{runs}
use Rattle.tableshow.proofs.page.run_form.Goals as goal

pub returns-then-kind-eq0 : goal.returns-then-kind-eq0
returns-then-kind-eq0 c = search runs

pub returns-then-kind-eq1 : goal.returns-then-kind-eq1
returns-then-kind-eq1 c = search runs

pub returns-then-kind-eq5 : goal.returns-then-kind-eq5
returns-then-kind-eq5 c = search runs

pub returns : goal.returns
returns c = search runs
