-- By the test.
use Rattle.row_build.proofs.Joining.{choosing}
use Rattle.row_build.proofs.Range.put.Goals as goal

pub returns-then-unseen : goal.returns-then-unseen
returns-then-unseen c = search choosing

pub returns : goal.returns
returns c = search choosing
