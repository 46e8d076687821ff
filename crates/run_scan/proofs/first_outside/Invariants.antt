-- The laws of a search with no early way out.
use Prim.Native.Nat.{◌+◌, ◌≤◌, min}
use mathlib.Core.Path.{◌≡◌}
use mathlib.Core.List.{[], ◌∷◌}
use lib.ListN.{drop}
use Rattle.refusal.specs.Lists.{before}
use Rattle.run_ranges.specs.Ranges.{outside}
use Rattle.run_scan.proofs.first_outside.Given as goal

abbrev pub invariant-loop-k : goal.invariant-loop-k
invariant-loop-k l = (l.first ≤ 16) × (min l.first (l.k + before (outside (l.a ∷ l.b ∷ l.c ∷ l.d ∷ [])) (drop l.k l.block)) ≡ before (outside (l.a ∷ l.b ∷ l.c ∷ l.d ∷ [])) l.block)
