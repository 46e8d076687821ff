-- Each form is the text that the definition chooses.
use Rattle.tableshow.specs.Joined.{joined, if_less}
use Rattle.tableshow.specs.Forms.{formed, filled, forms, piece, number_in, exit_in, low_in, high_in}
use Rattle.tableshow.proofs.Filling.{lines}
use Rattle.tableshow.proofs.page.end_form.Goals as goal

pub returns-in-65535 : goal.returns-in-65535
unfolding formed filled forms joined if_less piece number_in exit_in low_in high_in
returns-in-65535 c = search lines

pub returns-in-65534 : goal.returns-in-65534
unfolding formed filled forms joined if_less piece number_in exit_in low_in high_in
returns-in-65534 c = search lines

pub returns-in_default : goal.returns-in_default
unfolding formed filled forms joined if_less piece number_in exit_in low_in high_in
returns-in_default c = search lines
