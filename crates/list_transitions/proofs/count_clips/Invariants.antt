-- What is found and what is left have as many intervals as all pairs.
use Prim.Native.Nat.{◌+◌, ◌≤◌}
use mathlib.Core.Path.{◌≡◌}
use lib.ListN.{length}
use Rattle.list_transitions.specs.Intervals.{clips}
use Rattle.list_transitions.proofs.Pairs.{pairs_from}
use Rattle.list_transitions.specs.Bytes.{pairs_in}
use Rattle.list_transitions.proofs.count_clips.Given as goal

abbrev pub invariant-loop-i : goal.invariant-loop-i
invariant-loop-i l =
    (l.found ≤ l.i) × (l.found + length (clips (pairs_from l.pairs l.i)) ≡ length (clips (pairs_in l.pairs)))
