-- `range_scan::scan_blocks` meets its contract, by the laws of a search part by part. The measure is how many bytes are left.
use Prim.Native.Nat.{◌+◌, ◌-◌}
use mathlib.Core.Path.{◌≡◌}
use mathlib.Core.List.{[], ◌∷◌}
use lib.ListN.{length, drop}
use Rattle.refusal.specs.Lists.{before}
use Rattle.run_ranges.specs.Ranges.{outside}
use Rattle.run_scan.proofs.scan_blocks.Given as goal

abbrev pub invariant-loop-at : goal.invariant-loop-at
invariant-loop-at l = l.at + before (outside (l.a ∷ l.b ∷ l.c ∷ l.d ∷ [])) (drop l.at l.input) ≡ before (outside (l.a ∷ l.b ∷ l.c ∷ l.d ∷ [])) l.input

abbrev pub decreases-loop-at : goal.decreases-loop-at
decreases-loop-at l = length l.input - l.at
