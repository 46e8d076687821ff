-- The laws of numbers in decimal. Assumes nothing.
use Prim.Native.Nat.{ℕ, zero, suc, ◌+◌, ◌*◌, ◌-◌, ◌/◌, ◌%◌, ◌^◌, ◌<◌, ◌≤◌}
use native.Mathlib.Nat.{pow-suc, one-le-pow, pow-le-pow_right, zero-lt-suc}
use native.Mathlib.Numerals.{sub-one}
use native.Mathlib.Omega.{arith}
use mathlib.Core.Path.{◌≡◌, refl, ◌∙◌}
use mathlib.Core.Bool.{Bool, true, false}
use mathlib.Core.List.{List, [], ◌∷◌, ◌++◌}
use mir.Syntax.{w64}
use mir.Val.{Fits}
use borrow.Author.Tests.{lt-ltb, le-ltb, ltb-true, ltb-false}
use lib.Dec.{ltb}
use lib.ListN.{length, take, length-append}
use Rattle.io.specs.Digits.{last_digits, IsDigitCount}
use Rattle.refusal.specs.Lists.{pick}
use Rattle.program_io.specs.Decimal.{decimal}

-- the fewest digits that hold a number are its decimal
digits_are : (f k n : ℕ) → IsDigitCount 10 1 n k → k ≤ f → last_digits 10 k n ≡ decimal f n
unfolding decimal
digits_are zero k n w h = absurd (omega arith)
digits_are (suc f) zero n w h = absurd (omega arith)
digits_are (suc f) (suc zero) n w h =
    let l : n < 10 = omega arith in
    let e : n % 10 ≡ n = omega arith in
    rw (e, lt-ltb n 10 l)
digits_are (suc f) (suc (suc k)) n w h =
    let p : 10 ^ suc k ≤ n = rw sub-one at (w.2 (omega arith)) in
    let a : 10 ^ suc k ≡ 10 ^ k * 10 = pow-suc 10 k in
    let b : 10 ^ suc (suc k) ≡ 10 ^ suc k * 10 = pow-suc 10 (suc k) in
    let l : 10 ≤ n = omega (arith, one-le-pow k 10 (zero-lt-suc 9)) in
    let i : n / 10 < 10 ^ suc k = omega (arith, w.1) in
    let j : 10 ^ k ≤ n / 10 = omega arith in
    let r : last_digits 10 (suc k) (n / 10) ≡ decimal f (n / 10) = digits_are f (suc k) (n / 10) (omega arith, i, λ o. rw sub-one j) (omega arith) in
    let m : n % 10 < 10 = omega arith in
    rw (le-ltb n 10 l, r, lt-ltb (n % 10) 10 m)

-- and those of a number of 64 bits are at most 20
few_digits : (x k : ℕ) → IsDigitCount 10 1 x k → Fits w64 x → k ≤ 20
few_digits x k w f = go (ltb 20 k) refl
  where
    go : (b : Bool) → ltb 20 k ≡ b → k ≤ 20
    go true e =
        let h : 20 < k = ltb-true 20 k e in
        let i : 20 ≤ k - 1 = omega arith in
        let l : 10 ^ 20 ≤ 10 ^ (k - 1) = pow-le-pow_right (zero-lt-suc 9) i in
        let m : 10 ^ (k - 1) ≤ x = w.2 (omega arith) in
        absurd (omega (arith, f.fits))
    go false e = ltb-false 20 k e

-- a number has at most as many digits as it may
pub decimal-length : (f n : ℕ) → length (decimal f n) ≤ f
unfolding decimal
decimal-length zero n = omega arith
decimal-length (suc f) n = go (ltb n 10) (decimal-length f (n / 10))
  where
    go : (b : Bool) → length (decimal f (n / 10)) ≤ f → length (pick b ((48 + n) ∷ []) (decimal f (n / 10) ++ ((48 + n % 10) ∷ []))) ≤ suc f
    go true h = omega arith
    go false h = omega (arith, length-append (decimal f (n / 10)) ((48 + n % 10) ∷ []))

-- the digits that `io::decimal` puts are the number in decimal
pub found : (x k : ℕ) (ds : List ℕ) → take k ds ≡ last_digits 10 k x → IsDigitCount 10 1 x k → Fits w64 x → take k ds ≡ decimal 20 x
found x k ds e w h = e ∙ digits_are 20 k x w (few_digits x k w h)
