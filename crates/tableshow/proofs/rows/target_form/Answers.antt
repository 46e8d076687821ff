-- Each form is the text that the definition chooses.
use Rattle.tableshow.specs.Joined.{joined, if_less}
use Rattle.tableshow.specs.Forms.{formed, filled, forms, piece, number_in, exit_in, low_in, high_in}
use Rattle.tableshow.proofs.Filling.{choices}
use Rattle.tableshow.proofs.rows.target_form.Goals as goal

pub returns-in-Continuation : goal.returns-in-Continuation
unfolding formed filled forms joined if_less piece number_in exit_in low_in high_in
returns-in-Continuation c = search choices

pub returns-in-65534 : goal.returns-in-65534
unfolding formed filled forms joined if_less piece number_in exit_in low_in high_in
returns-in-65534 c = search choices

pub returns-in-65535 : goal.returns-in-65535
unfolding formed filled forms joined if_less piece number_in exit_in low_in high_in
returns-in-65535 c = search choices

pub returns-in_default : goal.returns-in_default
unfolding formed filled forms joined if_less piece number_in exit_in low_in high_in
returns-in_default c = search choices
