-- A test over numbers that antt computes. Assumes nothing.
use Prim.Native.Nat.{ℕ, zero, suc, ◌+◌, ◌-◌, ◌≤◌, ◌<◌}
use native.Mathlib.Nat.{eq-or-lt_of_le}
use native.Mathlib.Omega.{arith}
use mathlib.Core.Path.{◌≡◌, refl, ap, sym, ◌∙◌}
use mathlib.Core.Logic.{⊎_elim}
use mathlib.Core.Bool.{Bool, true, false, false≢true, ◌&&◌}
use Rattle.refusal.specs.Lists.{every}
use Rattle.run_class.specs.Byte.{up_from}

pub and_left : (a b : Bool) → (a && b) ≡ true → a ≡ true
and_left true b e = refl
and_left false b e = e

pub and_right : (a b : Bool) → (a && b) ≡ true → b ≡ true
and_right true b e = e
and_right false b e = absurd (false≢true e)

-- a test that passes at each of the n numbers from `low` on passes at any one of them
among : (p : ℕ → Bool) (n low : ℕ) → every p (up_from low n) ≡ true → (b : ℕ) → low ≤ b → b < low + n → p b ≡ true
unfolding every up_from
among p zero low t b l h = let e : ⊥ = omega arith in absurd e
among p (suc n) low t b l h =
    ⊎_elim
    (λ (e : low ≡ b). ap p (sym e) ∙ and_left (p low) _ t)
    (λ (m : low < b). among p n (suc low) (and_right (p low) _ t) b m (omega arith))
    (eq-or-lt_of_le l)

pub inside : (p : ℕ → Bool) (low end : ℕ) → every p (up_from low (end - low)) ≡ true → (b : ℕ) → low ≤ b → b < end → p b ≡ true
inside p low end t b l h = among p (end - low) low t b l (omega arith)
