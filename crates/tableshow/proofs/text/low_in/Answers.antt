-- By the tests that the definition makes.
use Rattle.tableshow.specs.Forms.{low_in}
use Rattle.tableshow.proofs.Filling.{tests}
use Rattle.tableshow.proofs.text.low_in.Goals as goal

pub returns-in-134 : goal.returns-in-134
unfolding low_in
returns-in-134 c = search tests

pub returns-in-135 : goal.returns-in-135
unfolding low_in
returns-in-135 c = search tests

pub returns-in-136 : goal.returns-in-136
unfolding low_in
returns-in-136 c = search tests

pub returns-in-137 : goal.returns-in-137
unfolding low_in
returns-in-137 c = search tests

pub returns-in_default : goal.returns-in_default
unfolding low_in
returns-in_default c = search tests
