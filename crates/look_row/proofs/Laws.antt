-- The search of a row of records, range by range; and that it is the search of a room in which the row's numbers stand. Assumes nothing.
use Prim.Native.Nat.{ℕ, zero, suc, ◌+◌, ◌*◌, ◌<◌}
use native.Mathlib.Nat.{not-suc-le-zero, le_of_suc-le-suc}
use native.Mathlib.Omega.{arith}
use mathlib.Core.Path.{◌≡◌, refl, ap, ◌∙◌}
use mathlib.Core.Bool.{Bool, true, false}
use mathlib.Core.List.{List, [], ◌∷◌}
use lib.Dec.{leb}
use lib.ListN.{length, get_or, drop}
use Rattle.refusal.specs.Fixed.{DEAD-STATE}
use Rattle.refusal.specs.Lists.{pick}
use Rattle.std.specs.Prelude.{Option, Some, None, Ok}
use Rattle.look_row.specs.Search.{found, given, searched}
use Rattle.look_row.specs.declared.WideRange.{WideRange}
use Rattle.look_row.specs.Ranges.{numbers, target_of, target_in, Stands}
use Rattle.look_row.proofs.Searches.{row-searched}

-- a search reads the row's numbers and no others
pub found_same : (w v : List ℕ) (x n at bt : ℕ) → ((j : ℕ) → j < n * 3 → get_or w (at + j) 0 ≡ get_or v (bt + j) 0) → found w x n at ≡ found v x n bt
unfolding found
found_same w v x zero at bt h = refl
found_same w v x (suc n) at bt h = rw (low, h 1 (omega arith), h 2 (omega arith), found_same w v x n (at + 3) (bt + 3) behind)
  where
    low : get_or w at 0 ≡ get_or v bt 0
    low = let e : at + 0 ≡ at = omega arith in let f : bt + 0 ≡ bt = omega arith in rw (e, f) at (h 0 (omega arith))

    behind : (j : ℕ) → j < n * 3 → get_or w (at + 3 + j) 0 ≡ get_or v (bt + 3 + j) 0
    behind j l = let e : at + 3 + j ≡ at + (3 + j) = omega arith in let f : bt + 3 + j ≡ bt + (3 + j) = omega arith in rw (e, f) (h (3 + j) (omega arith))

-- one range, and the ranges behind it
target_open : (b c : Bool) (t : ℕ) (h : Option ℕ) → target_of (Ok (pick b (pick c (Some t) None) h)) ≡ pick b (pick c t DEAD-STATE) (target_of (Ok h))
unfolding given
target_open true true t h = refl
target_open true false t h = refl
target_open false c t h = refl

pub first_range : (r : WideRange) (rs : List WideRange) (x : ℕ)
    → target_in (r ∷ rs) x ≡ pick (leb x r.high) (pick (leb r.low x) r.target DEAD-STATE) (target_in rs x)
unfolding target_in found
first_range r rs x = target_open (leb x r.high) (leb r.low x) r.target (found (numbers (r ∷ rs)) x (length rs) 3)
    ∙ ap (λ h. pick (leb x r.high) (pick (leb r.low x) r.target DEAD-STATE) (target_of (Ok h))) behind
  where
    behind : found (numbers (r ∷ rs)) x (length rs) 3 ≡ found (numbers rs) x (length rs) 0
    behind = found_same (numbers (r ∷ rs)) (numbers rs) x (length rs) 3 0
        (λ j l. let e : 3 + j ≡ suc (suc (suc j)) = omega arith in let f : 0 + j ≡ j = omega arith in rw (e, f))

-- the row from place i on
pub at_place : (ys : List WideRange) (x i : ℕ) (none : WideRange) → i < length ys
    → target_in (drop i ys) x ≡ pick (leb x (get_or ys i none).high) (pick (leb (get_or ys i none).low x) (get_or ys i none).target DEAD-STATE)
    (target_in (drop (suc i) ys) x)
at_place [] x i none l = absurd (not-suc-le-zero l)
at_place (y ∷ ys) x zero none l = first_range y ys x
at_place (y ∷ ys) x (suc i) none l = at_place ys x i none (le_of_suc-le-suc l)

pub no-range : (x : ℕ) → target_in [] x ≡ DEAD-STATE
unfolding target_in found given
no-range x = refl

-- "equal to the search over numbers": on a room in which the row stands, the search of the room gives what the search of the records gives
pub searched_same : (w : List ℕ) (at e x : ℕ) (rs : List WideRange) → Stands w at e rs → target_of (searched w at e x) ≡ target_in rs x
unfolding target_in
searched_same w at e x rs s =
    let a : at < e = omega (arith, s.whole) in
    let b : get_or w at 0 * 3 + at < e = rw s.counted s.whole in
    rw (row-searched w at e x s.inside a b, s.counted)
    (ap (λ (h : Option ℕ). target_of (Ok h)) (found_same w (numbers rs) x (length rs) (at + 1) 0 (λ j l. let f : 0 + j ≡ j = omega arith in rw f (s.same j l))))

-- every row stands somewhere: behind its own length
numbers-length : (rs : List WideRange) → length (numbers rs) ≡ length rs * 3
numbers-length [] = refl
numbers-length (r ∷ rs) = omega (arith, numbers-length rs)

pub stands_alone : (rs : List WideRange) → Stands (length rs ∷ numbers rs) 0 (length rs * 3 + 1) rs
stands_alone rs =
    record {
      inside = omega (arith, numbers-length rs);
      whole = omega arith;
      counted = refl;
      same = λ j l. let e : 0 + 1 + j ≡ suc j = omega arith in rw e;
    }
