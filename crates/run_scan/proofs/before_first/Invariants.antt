use Rattle.std.proofs.Common.{◌≡◌, ◌+◌, ℕ, Bool, drop}
use Rattle.refusal.specs.Lists.{before}
use Rattle.run_scan.proofs.before_first.Given as goal

-- The loop's invariant: what is found from here, by any test that the closure makes, is what is found in all.
abbrev pub invariant-loop-place : goal.invariant-loop-place
invariant-loop-place g l =
    goal.F-IsAlwaysCallable g l.fn.stops
    × ((p : ℕ → Bool) → ((x : ℕ) (t : Bool) → goal.F-post g l.fn.stops x t → t ≡ p x) → l.place + before p (drop l.place l.fn.input) ≡ before p l.fn.input)
