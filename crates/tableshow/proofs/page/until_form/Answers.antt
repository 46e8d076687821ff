-- Each form is the text that the definition chooses.
use Rattle.tableshow.proofs.Filling.{lines}
use Rattle.tableshow.proofs.page.until_form.Goals as goal

pub returns-then-kind-lt3 : goal.returns-then-kind-lt3
returns-then-kind-lt3 c = search lines

pub returns-then-kind-lt4 : goal.returns-then-kind-lt4
returns-then-kind-lt4 c = search lines

pub returns : goal.returns
returns c = search lines
