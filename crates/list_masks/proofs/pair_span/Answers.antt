-- What the search found.
use Rattle.list_masks.proofs.Holds.{spans}
use Rattle.list_masks.proofs.pair_span.Goals as goal

pub returns-then-j-pairs : goal.returns-then-j-pairs
returns-then-j-pairs c = search spans

pub returns : goal.returns
returns c = search spans
