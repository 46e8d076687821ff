-- By the law of every loop that writes. The measure is how many bytes are left.
use Prim.Native.Nat.{◌-◌}
use lib.ListN.{length}
use Rattle.list_transitions.proofs.Gathers.{Gather}
use Rattle.list_transitions.proofs.intervals.gather.Given as goal

abbrev pub invariant-loop-at : goal.invariant-loop-at
invariant-loop-at l = Gather l.list l.initial.out l.at l.n l.out

abbrev pub decreases-loop-at : goal.decreases-loop-at
decreases-loop-at l = length l.list - l.at
