-- How many numbers below a bound pass a test: tests that are alike, that part another test between them, and that hold between two numbers.
-- The bound is any number, so that no law walks over a million points. Assumes nothing.
use Prim.Native.Nat.{ℕ, zero, suc, ◌+◌, ◌-◌, ◌≤◌, zero-le}
use native.Mathlib.Omega.{arith}
use mathlib.Core.Path.{◌≡◌, refl, ap}
use mathlib.Core.Bool.{Bool, true, false, ◌&&◌}
use lib.Dec.{leb}
use borrow.Author.Tests.{le-leb, leb-true, leb-false}
use Rattle.refusal.specs.Lists.{pick}
use Rattle.room_coverage.specs.Coverage.{count}

bit_most : (b : Bool) → pick b 1 0 ≤ 1
bit_most true = omega arith
bit_most false = omega arith

-- one test

module _ (f : ℕ → Bool) where
  pub count_most : (n : ℕ) → count f n ≤ n
  unfolding count
  count_most zero = zero-le
  count_most (suc n) = omega (arith, bit_most (f n), count_most n)

  pub count-start : count f 0 ≡ 0
  unfolding count
  count-start = refl

  pub count_next : (n : ℕ) → count f (n + 1) ≡ pick (f n) 1 0 + count f n
  unfolding count
  count_next n = let e : n + 1 ≡ suc n = omega arith in rw e

  -- it holds nowhere
  pub count_none : (n : ℕ) → ((i : ℕ) → f i ≡ false) → count f n ≡ 0
  unfolding count
  count_none zero h = refl
  count_none (suc n) h = let e : ◌≡◌ {A = ℕ} (pick (f n) 1 0) 0 = ap (λ b. pick b 1 0) (h n) in omega (arith, e, count_none n h)

  -- the numbers below k, and those from k on
  pub count_from : (k n : ℕ) → count f (k + n) ≡ count f k + count (λ i. f (k + i)) n
  unfolding count
  count_from k zero = let e : k + 0 ≡ k = omega arith in let z : count f k + 0 ≡ count f k = omega arith in rw (e, z)
  count_from k (suc n) = let e : k + suc n ≡ suc (k + n) = omega arith in rw e (omega (arith, count_from k n))

-- two tests that are alike
pub count_same : (f g : ℕ → Bool) (n : ℕ) → ((i : ℕ) → f i ≡ g i) → count f n ≡ count g n
unfolding count
count_same f g zero h = refl
count_same f g (suc n) h = rw (h n, count_same f g n h)

-- a test that holds where one of two does, which never hold both
pub count-both : (f g h : ℕ → Bool) (n : ℕ) → ((i : ℕ) → pick (f i) 1 0 ≡ pick (g i) 1 0 + pick (h i) 1 0) → count f n ≡ count g n + count h n
unfolding count
count-both f g h zero e = refl
count-both f g h (suc n) e = omega (arith, e n, count-both f g h n e)

-- x, or n where x is more
abbrev pub cut : ℕ → ℕ → ℕ
cut n x = pick (leb x n) x n

cut_low : (n x : ℕ) → x ≤ n → cut n x ≡ x
cut_low n x h = rw (le-leb x n h)

cut_high : (n x : ℕ) → n ≤ x → cut n x ≡ n
cut_high n x h = go (leb x n) refl
  where
    go : (b : Bool) → leb x n ≡ b → pick b x n ≡ n
    go true e = omega (arith, leb-true x n e)
    go false e = refl

-- how many of n numbers from k on lie from low to high
pub count-range : (k low high n : ℕ) → low ≤ high → count (λ i. leb low (k + i) && leb (k + i) high) n ≡ cut n (high + 1 - k) - cut n (low - k)
unfolding count
count-range k low high zero h = omega (arith, cut_high 0 (high + 1 - k) zero-le, cut_high 0 (low - k) zero-le)
count-range k low high (suc n) h = go (leb low (k + n)) (leb (k + n) high) refl refl (count-range k low high n h)
  where
    go : (a b : Bool) → leb low (k + n) ≡ a → leb (k + n) high ≡ b → count (λ i. leb low (k + i) && leb (k + i) high) n ≡ cut n (high + 1 - k) - cut n (low - k)
        → pick (a && b) 1 0 + count (λ i. leb low (k + i) && leb (k + i) high) n ≡ cut (suc n) (high + 1 - k) - cut (suc n) (low - k)
    go true true p q e =
        let l = leb-true low (k + n) p in
        let m = leb-true (k + n) high q in
        omega (
          arith,
          e,
          cut_high n (high + 1 - k) (omega arith),
          cut_low n (low - k) (omega arith),
          cut_high (suc n) (high + 1 - k) (omega arith),
          cut_low (suc n) (low - k) (omega arith),
        )
    go true false p q e =
        let l = leb-true low (k + n) p in
        let m = leb-false (k + n) high q in
        omega (
          arith,
          e,
          cut_low n (high + 1 - k) (omega arith),
          cut_low n (low - k) (omega arith),
          cut_low (suc n) (high + 1 - k) (omega arith),
          cut_low (suc n) (low - k) (omega arith),
        )
    go false b p q e =
        let l = leb-false low (k + n) p in
        omega (
          arith,
          e,
          cut_high n (high + 1 - k) (omega arith),
          cut_high n (low - k) (omega arith),
          cut_high (suc n) (high + 1 - k) (omega arith),
          cut_high (suc n) (low - k) (omega arith),
        )
