-- By the tests that the definition makes.
use Rattle.tableshow.specs.Forms.{high_in}
use Rattle.tableshow.proofs.Filling.{tests}
use Rattle.tableshow.proofs.text.high_in.Goals as goal

pub returns-in-134 : goal.returns-in-134
unfolding high_in
returns-in-134 c = search tests

pub returns-in-135 : goal.returns-in-135
unfolding high_in
returns-in-135 c = search tests

pub returns-in-136 : goal.returns-in-136
unfolding high_in
returns-in-136 c = search tests

pub returns-in-137 : goal.returns-in-137
unfolding high_in
returns-in-137 c = search tests

pub returns-in_default : goal.returns-in_default
unfolding high_in
returns-in_default c = search tests
