-- Each form is the text that the definition chooses.
use Rattle.tableshow.specs.Joined.{joined, if_less, if_same}
use Rattle.tableshow.specs.Forms.{formed, filled, forms, piece, number_in, exit_in, low_in, high_in}
use Rattle.tableshow.proofs.Filling.{reasons}
use Rattle.tableshow.proofs.page.reason_form.Goals as goal

pub returns-in-1 : goal.returns-in-1
unfolding formed filled forms joined if_less if_same piece number_in exit_in low_in high_in
returns-in-1 c = search reasons

pub returns-in-2 : goal.returns-in-2
unfolding formed filled forms joined if_less if_same piece number_in exit_in low_in high_in
returns-in-2 c = search reasons

pub returns-in-3 : goal.returns-in-3
unfolding formed filled forms joined if_less if_same piece number_in exit_in low_in high_in
returns-in-3 c = search reasons

pub returns-in-4 : goal.returns-in-4
unfolding formed filled forms joined if_less if_same piece number_in exit_in low_in high_in
returns-in-4 c = search reasons

pub returns-in-5 : goal.returns-in-5
unfolding formed filled forms joined if_less if_same piece number_in exit_in low_in high_in
returns-in-5 c = search reasons

pub returns-in-6 : goal.returns-in-6
unfolding formed filled forms joined if_less if_same piece number_in exit_in low_in high_in
returns-in-6 c = search reasons

pub returns-in_default : goal.returns-in_default
unfolding formed filled forms joined if_less if_same piece number_in exit_in low_in high_in
returns-in_default c = search reasons
