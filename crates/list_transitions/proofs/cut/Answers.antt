-- Both ends are cut to the points.
use Rattle.list_transitions.proofs.Pairs.{cuts}
use Rattle.list_transitions.proofs.cut.Goals as goal

pub returns-then-low-end : goal.returns-then-low-end
returns-then-low-end c = search cuts

pub returns-else-low-end : goal.returns-else-low-end
returns-else-low-end c = search cuts
