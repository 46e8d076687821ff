-- Each form is the text that the definition chooses.
use Rattle.tableshow.specs.Joined.{joined, if_less}
use Rattle.tableshow.specs.Forms.{formed, filled, forms, piece, number_in, exit_in, low_in, high_in}
use Rattle.tableshow.proofs.Filling.{lines}
use Rattle.tableshow.proofs.page.continuation_form.Goals as goal

pub returns-then-to-eq-NONE : goal.returns-then-to-eq-NONE
unfolding formed filled forms joined if_less piece number_in exit_in low_in high_in
returns-then-to-eq-NONE c = search lines

pub returns : goal.returns
unfolding formed filled forms joined if_less piece number_in exit_in low_in high_in
returns c = search lines
