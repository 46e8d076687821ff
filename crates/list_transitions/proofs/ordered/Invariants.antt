-- The pairs that are left are in order behind those before them where all are.
use mathlib.Core.Path.{◌≡◌}
use Rattle.list_transitions.specs.Transition.{orderly}
use Rattle.list_transitions.proofs.Pairs.{pairs_from}
use Rattle.list_transitions.specs.Bytes.{pairs_in}
use Rattle.list_transitions.proofs.ordered.Given as goal

abbrev pub invariant-loop-i : goal.invariant-loop-i
invariant-loop-i l = orderly l.from (pairs_from l.pairs l.i) ≡ orderly 0 (pairs_in l.pairs)
