-- Each answer is the case that the tests on the way say.
use Rattle.list_transitions.proofs.Pairs.{lives}
use Rattle.list_transitions.proofs.is_live.Goals as goal

pub returns-then-b-le-ORIGIN : goal.returns-then-b-le-ORIGIN
returns-then-b-le-ORIGIN c = search lives

pub returns-then-a-ge-BEYOND : goal.returns-then-a-ge-BEYOND
returns-then-a-ge-BEYOND c = search lives

pub returns-then-b-a : goal.returns-then-b-a
returns-then-b-a c = search lives

pub returns : goal.returns
returns c = search lives
