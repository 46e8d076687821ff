-- The records that are left end where all do.
use Prim.Native.Nat.{◌-◌}
use mathlib.Core.Path.{◌≡◌}
use Rattle.list_transitions.specs.Walk.{Fit}
use Rattle.list_masks.specs.Walk.{next_of}
use Rattle.list_masks.proofs.skip.Given as goal

abbrev pub invariant-loop : goal.invariant-loop
invariant-loop l = Fit l.list (l.n - l.counter) l.here × (next_of l.list (l.n - l.counter) l.here ≡ next_of l.list l.n l.at)
