-- By the tests that the definition makes.
use Rattle.tableshow.specs.Forms.{number_in}
use Rattle.tableshow.proofs.Filling.{tests}
use Rattle.tableshow.proofs.text.number_in.Goals as goal

pub returns-in-128 : goal.returns-in-128
unfolding number_in
returns-in-128 c = search tests

pub returns-in-129 : goal.returns-in-129
unfolding number_in
returns-in-129 c = search tests

pub returns-in_default : goal.returns-in_default
unfolding number_in
returns-in_default c = search tests
