-- What is found and what is left have as many gaps as all pairs.
use Prim.Native.Nat.{◌+◌, ◌≤◌}
use mathlib.Core.Path.{◌≡◌}
use lib.ListN.{length}
use Rattle.list_transitions.specs.Transition.{origin}
use Rattle.list_transitions.specs.Intervals.{gaps}
use Rattle.list_transitions.proofs.Pairs.{pairs_from}
use Rattle.list_transitions.specs.Bytes.{pairs_in}
use Rattle.list_transitions.proofs.count_gaps.Given as goal

abbrev pub invariant-loop-i : goal.invariant-loop-i
invariant-loop-i l =
    (l.found ≤ l.i) × (l.found + length (gaps l.next (pairs_from l.pairs l.i)) ≡ length (gaps origin (pairs_in l.pairs)))
