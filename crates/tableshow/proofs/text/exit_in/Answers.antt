-- By the tests that the definition makes.
use Rattle.tableshow.specs.Forms.{exit_in}
use Rattle.tableshow.proofs.Filling.{tests}
use Rattle.tableshow.proofs.text.exit_in.Goals as goal

pub returns-in-131 : goal.returns-in-131
unfolding exit_in
returns-in-131 c = search tests

pub returns-in-132 : goal.returns-in-132
unfolding exit_in
returns-in-132 c = search tests

pub returns-in_default : goal.returns-in_default
unfolding exit_in
returns-in_default c = search tests
