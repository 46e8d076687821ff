-- The pairs before j end before the key.
use Prim.Native.Nat.{◌/◌}
use lib.ListN.{length}
use Rattle.list_masks.specs.Walk.{Passed}
use Rattle.list_masks.proofs.seek.Given as goal

abbrev pub invariant-loop-j : goal.invariant-loop-j
invariant-loop-j l = Passed l.pairs (length l.pairs / 8) 0 l.q l.j
