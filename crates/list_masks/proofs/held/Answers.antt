use Rattle.list_masks.proofs.Holds.{tests}
use Rattle.list_masks.proofs.held.Goals as goal

pub returns-then-tag-ge-NOT_SET : goal.returns-then-tag-ge-NOT_SET
returns-then-tag-ge-NOT_SET c = search tests

pub returns : goal.returns
returns c = search tests
