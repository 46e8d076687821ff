-- Each form is the text that the definition chooses.
use Rattle.tableshow.proofs.Filling.{lines}
use Rattle.tableshow.proofs.page.record_form.Goals as goal

pub returns-then-flag : goal.returns-then-flag
returns-then-flag c = search lines

pub returns-then-actions-eq0 : goal.returns-then-actions-eq0
returns-then-actions-eq0 c = search lines

pub returns-then-flag-2 : goal.returns-then-flag-2
returns-then-flag-2 c = search lines

pub returns : goal.returns
returns c = search lines
