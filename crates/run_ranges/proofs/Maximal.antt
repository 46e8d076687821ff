-- The ranges of a row hold exactly the symbols that loop, and no two of them touch: they are maximal. For a looping symbol, put before
-- ranges that start behind it, makes the first of them longer where they would touch, and else is a range of its own. Assumes nothing.
use Prim.Native.Nat.{ℕ, zero, suc, ◌+◌, ◌≤◌, ◌<◌}
use native.Mathlib.Nat.{add-zero, zero-add}
use native.Mathlib.Omega.{arith}
use mathlib.Core.Path.{◌≡◌, refl, sym}
use mathlib.Core.Bool.{Bool, true, false, ◌&&◌, ◌||◌, and-true, and-false, or-false}
use mathlib.Core.List.{List, [], ◌∷◌}
use lib.Dec.{eqb, leb, ltb}
use lib.ListN.{length, get_or}
use borrow.Author.Tests.{eq-eqb, ne_eqb, eqb-true, eqb-false, le-leb, lt-leb, leb-true, leb-false, ltb-true, ltb-false}
use Rattle.refusal.specs.Lists.{pick}
use Rattle.run_ranges.specs.declared.AsciiRange.{AsciiRange}
use Rattle.run_ranges.specs.Ranges.{range, loops_at, joined, ranges_from, in_range, in_ranges, ordered}

-- The symbols of a row at whose targets a test holds. The row's first target is that of the symbol k.

-- b is one of them
unfoldable pub passing : (ℕ → Bool) → ℕ → List ℕ → ℕ → Bool
passing p k [] b = false
passing p k (t ∷ ts) b = eqb b k && p t || passing p (suc k) ts b

module _ (p : ℕ → Bool) where
  pub passing-before : (k : ℕ) (ts : List ℕ) (b : ℕ) → b < k → passing p k ts b ≡ false
  unfolding passing
  passing-before k [] b h = refl
  passing-before k (t ∷ ts) b h = let n : b ≡ k → ⊥ = λ e. omega arith in rw (ne_eqb b k n, passing-before (suc k) ts b (omega arith))

  pub passing_behind : (k : ℕ) (ts : List ℕ) (b : ℕ) → k + length ts ≤ b → passing p k ts b ≡ false
  unfolding passing
  passing_behind k [] b h = refl
  passing_behind k (t ∷ ts) b h = let n : b ≡ k → ⊥ = λ e. omega arith in rw (ne_eqb b k n, passing_behind (suc k) ts b (omega arith))

  pub passing_at : (k : ℕ) (ts : List ℕ) (i : ℕ) → i < length ts → passing p k ts (k + i) ≡ p (get_or ts i 0)
  unfolding passing
  passing_at k [] i h = absurd (omega arith)
  passing_at k (t ∷ ts) zero h = rw (add-zero, eq-eqb k k refl, passing-before (suc k) ts k (omega arith)) (or-false (p t))
  passing_at k (t ∷ ts) (suc i) h =
      let n : k + suc i ≡ k → ⊥ = λ e. omega arith in
      let m : k + suc i ≡ suc k + i = omega arith in
      rw (ne_eqb (k + suc i) k n, m) (passing_at (suc k) ts i (omega arith))

  -- of a whole row, whose first symbol is 0
  pub passing_in_lem : (row : List ℕ) (b : ℕ) → b < length row → passing p 0 row b ≡ p (get_or row b 0)
  passing_in_lem row b h = rw zero-add at (passing_at 0 row b h)

  pub passing-row : (row : List ℕ) (b : ℕ) → passing p 0 row b ≡ (ltb b (length row) && p (get_or row b 0))
  passing-row row b = cases (ltb b (length row)) refl where
    cases : (t : Bool) → ltb b (length row) ≡ t → passing p 0 row b ≡ (t && p (get_or row b 0))
    cases true e = passing_in_lem row b (ltb-true b (length row) e)
    cases false e = passing_behind 0 row b (omega (arith, ltb-false b (length row) e))

-- Order. Ranges are apart where each low is at most its high and each high + 1 below the next low, all from `least` on and before `end`.

abbrev pub Apart : ℕ → ℕ → List AsciiRange → Type 0
Apart least end [] = Unit {0}
Apart least end (r ∷ rs) = (least ≤ r.low) × (r.low ≤ r.high) × (r.high < end) × Apart (r.high + 2) end rs

later : (least end : ℕ) (rs : List AsciiRange) → Apart (suc least) end rs → Apart least end rs
later least end [] a = tt
later least end (r ∷ rs) a = (omega arith, a.1, a.2, a.3)

joined_apart : (k end : ℕ) (rs : List AsciiRange) → k < end → Apart (suc k) end rs → Apart k end (joined k rs)
unfolding joined
joined_apart k end [] h a = (omega arith, omega arith, h, tt)
joined_apart k end (r ∷ rs) h a = cases (eqb r.low (suc k)) refl where
  cases : (t : Bool) → eqb r.low (suc k) ≡ t → Apart k end (pick t (range k r.high ∷ rs) (range k k ∷ r ∷ rs))
  cases true e = (omega arith, omega arith, a.2, a.3)
  cases false e = (omega arith, omega arith, h, (omega (arith, eqb-false r.low (suc k) e), a.1, a.2, a.3))

pub ranges_apart : (state k end : ℕ) (ts : List ℕ) → k + length ts ≤ end → Apart k end (ranges_from state k ts)
unfolding ranges_from
ranges_apart state k end [] h = tt
ranges_apart state k end (t ∷ ts) h = cases (loops_at state t) (ranges_apart state (suc k) end ts (omega arith)) where
  cases : (l : Bool) → Apart (suc k) end (ranges_from state (suc k) ts)
      → Apart k end (pick l (joined k (ranges_from state (suc k) ts)) (ranges_from state (suc k) ts))
  cases true a = joined_apart k end (ranges_from state (suc k) ts) (omega arith) a
  cases false a = later k end (ranges_from state (suc k) ts) a

apart_ordered : (least : ℕ) (rs : List AsciiRange) → Apart least 128 rs → ordered least rs ≡ true
unfolding ordered
apart_ordered least [] a = refl
apart_ordered least (r ∷ rs) a =
    let h : r.high ≤ 127 = omega arith in
    rw (le-leb least r.low a.0, le-leb r.low r.high a.1, le-leb r.high 127 h) (apart_ordered (r.high + 2) rs a.3)

-- the same by the test that a kind-5 run must pass
pub ranges_ordered : (state : ℕ) (row : List ℕ) → length row ≡ 128 → ordered 0 (ranges_from state 0 row) ≡ true
ranges_ordered state row h = apart_ordered 0 (ranges_from state 0 row) (ranges_apart state 0 128 row (omega arith))

-- What the ranges hold.

-- a symbol put before ranges adds itself
joined-holds_here : (k end : ℕ) (rs : List AsciiRange) → Apart (suc k) end rs → in_ranges (joined k rs) k ≡ true
unfolding joined in_ranges
joined-holds_here k end [] a = rw (le-leb k k (omega arith))
joined-holds_here k end (r ∷ rs) a = cases (eqb r.low (suc k)) where
  cases : (t : Bool) → in_ranges (pick t (range k r.high ∷ rs) (range k k ∷ r ∷ rs)) k ≡ true
  cases true = let h : k ≤ r.high = omega arith in rw (le-leb k k (omega arith), le-leb k r.high h)
  cases false = rw (le-leb k k (omega arith))

-- and no other symbol
module _ (k b : ℕ) (n : b ≡ k → ⊥) where
  from_next : leb k b ≡ leb (suc k) b
  from_next = cases (leb k b) refl where
    cases : (t : Bool) → leb k b ≡ t → t ≡ leb (suc k) b
    cases true e = let h : suc k ≤ b = omega (arith, leb-true k b e, n) in sym (le-leb (suc k) b h)
    cases false e = let h : b < suc k = omega (arith, leb-false k b e) in sym (lt-leb (suc k) b h)

  not_alone : in_range (range k k) b ≡ false
  not_alone = cases (leb k b) refl where
    cases : (t : Bool) → leb k b ≡ t → (t && leb b k) ≡ false
    cases true e = let h : k < b = omega (arith, leb-true k b e, n) in lt-leb b k h
    cases false e = refl

  joined-holds_other : (rs : List AsciiRange) → in_ranges (joined k rs) b ≡ in_ranges rs b
  unfolding joined in_ranges
  joined-holds_other [] = rw not_alone
  joined-holds_other (r ∷ rs) = cases (eqb r.low (suc k)) refl where
    cases : (t : Bool) → eqb r.low (suc k) ≡ t → in_ranges (pick t (range k r.high ∷ rs) (range k k ∷ r ∷ rs)) b ≡ (in_range r b || in_ranges rs b)
    cases true e = rw (from_next, eqb-true r.low (suc k) e)
    cases false e = rw not_alone

joined-holds : (k end : ℕ) (rs : List AsciiRange) → Apart (suc k) end rs → (b : ℕ) → in_ranges (joined k rs) b ≡ (eqb b k || in_ranges rs b)
joined-holds k end rs a b = cases (eqb b k) refl where
  cases : (t : Bool) → eqb b k ≡ t → in_ranges (joined k rs) b ≡ (t || in_ranges rs b)
  cases true e = rw (eqb-true b k e) (joined-holds_here k end rs a)
  cases false e = joined-holds_other k b (eqb-false b k e) rs

-- the ranges hold exactly the symbols that loop
pub ranges_hold : (state k : ℕ) (ts : List ℕ) (b : ℕ) → in_ranges (ranges_from state k ts) b ≡ passing (loops_at state) k ts b
unfolding ranges_from in_ranges passing
ranges_hold state k [] b = refl
ranges_hold state k (t ∷ ts) b = cases (loops_at state t) (ranges_hold state (suc k) ts b) where
  cases : (l : Bool) → in_ranges (ranges_from state (suc k) ts) b ≡ passing (loops_at state) (suc k) ts b →
      in_ranges (pick l (joined k (ranges_from state (suc k) ts)) (ranges_from state (suc k) ts)) b ≡ (eqb b k && l || passing (loops_at state) (suc k) ts b)
  cases true h =
      let end = suc k + length ts in
      rw (and-true, ← h) (joined-holds k end (ranges_from state (suc k) ts) (ranges_apart state (suc k) end ts (omega arith)) b)
  cases false h = rw and-false h
