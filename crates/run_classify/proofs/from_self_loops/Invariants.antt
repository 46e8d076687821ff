-- The loop's invariant is Going: the ranges below `low` stand in the first places, and the others are 0.
use Rattle.run_classify.proofs.Loops.{Going}
use Prim.Native.Nat.{◌-◌}
use lib.ListN.{length}
use Rattle.run_classify.proofs.from_self_loops.Given as goal

abbrev pub invariant-loop-low : goal.invariant-loop-low
invariant-loop-low l = Going l.state l.row l.ranges l.count l.low

abbrev pub decreases-loop-low : goal.decreases-loop-low
decreases-loop-low l = length l.row - l.low
