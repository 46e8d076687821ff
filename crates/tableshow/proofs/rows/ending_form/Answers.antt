-- Each form is the text that the definition chooses.
use Rattle.tableshow.specs.Joined.{joined, if_less}
use Rattle.tableshow.specs.Forms.{formed, filled, forms, piece, number_in, exit_in, low_in, high_in}
use Rattle.tableshow.proofs.Filling.{choices}
use Rattle.tableshow.proofs.rows.ending_form.Goals as goal

pub returns-then-items-eq0 : goal.returns-then-items-eq0
unfolding formed filled forms joined if_less piece number_in exit_in low_in high_in
returns-then-items-eq0 c = search choices

pub returns : goal.returns
unfolding formed filled forms joined if_less piece number_in exit_in low_in high_in
returns c = search choices
