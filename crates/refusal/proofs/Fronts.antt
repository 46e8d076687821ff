-- Where a search ends: the test fails at each place before the end, and holds there if the list goes on. Assumes nothing.
use Prim.Native.Nat.{ℕ, zero, suc, ◌<◌}
use native.Mathlib.Omega.{arith}
use mathlib.Core.Path.{◌≡◌, refl}
use mathlib.Core.Bool.{Bool, true, false}
use mathlib.Core.List.{List, [], ◌∷◌}
use lib.ListN.{length, get_or}
use Rattle.refusal.specs.Lists.{before}
use Rattle.refusal.proofs.Lists.{before_≤, before-true, before-false, before_again, before_here}

module _ (p : ℕ → Bool) where
  pub before-front : (xs : List ℕ) (i : ℕ) → i < before p xs → p (get_or xs i 0) ≡ false
  before-front [] i h = absurd (omega (arith, before_≤ p []))
  before-front (x ∷ xs) i h = cases (p x) refl i h (before-front xs) where
    cases : (t : Bool) → p x ≡ t → (i : ℕ) → i < before p (x ∷ xs) → ((i : ℕ) → i < before p xs → p (get_or xs i 0) ≡ false) → p (get_or (x ∷ xs) i 0) ≡ false
    cases true e i h r = absurd (omega (arith, before-true p {x = x} xs e))
    cases false e zero h r = e
    cases false e (suc i) h r = r i (omega (arith, before-false p {x = x} xs e))

  pub before_at : (xs : List ℕ) → before p xs < length xs → p (get_or xs (before p xs) 0) ≡ true
  before_at xs h = before_here p xs (before p xs) h (before_again p xs)
