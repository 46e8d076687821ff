-- By the test on the way.
use Rattle.list_masks.proofs.Holds.{atoms}
use Rattle.list_masks.proofs.atom_span.Goals as goal

pub returns-then-q-x : goal.returns-then-q-x
returns-then-q-x c = search atoms

pub returns : goal.returns
returns c = search atoms
