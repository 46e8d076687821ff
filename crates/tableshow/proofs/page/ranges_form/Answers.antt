-- Each form is the text that the definition chooses.
use Rattle.tableshow.proofs.Filling.{lines}
use Rattle.tableshow.proofs.page.ranges_form.Goals as goal

pub returns-then-count-lt2 : goal.returns-then-count-lt2
returns-then-count-lt2 c = search lines

pub returns-then-count-lt3 : goal.returns-then-count-lt3
returns-then-count-lt3 c = search lines

pub returns-then-count-lt4 : goal.returns-then-count-lt4
returns-then-count-lt4 c = search lines

pub returns : goal.returns
returns c = search lines
