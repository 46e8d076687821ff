use Rattle.list_transitions.proofs.Pairs.{order}
use Rattle.list_transitions.proofs.ordered.Goals as goal

pub loop-i-init : goal.loop-i-init
loop-i-init c = search order

pub returns-then-low-from : goal.returns-then-low-from
returns-then-low-from c = search order

pub returns-then-high-low : goal.returns-then-high-low
returns-then-high-low c = search order

pub loop-i-preserved : goal.loop-i-preserved
loop-i-preserved c = search order

pub returns : goal.returns
returns c = search order
