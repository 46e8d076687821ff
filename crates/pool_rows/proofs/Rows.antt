-- The laws of the rows of a pool: of two rows that are compared, of the first equal one, which are stated once for both kinds, and of a row
-- that is judged or laid into the pool. Assumes nothing.
use Prim.Native.Nat.{ℕ, zero, suc, ◌+◌, ◌*◌, ◌-◌, ◌/◌, ◌%◌, ◌<◌, ◌≤◌, min}
use native.Mathlib.Omega.{arith}
use mathlib.Core.Path.{◌≡◌, refl, sym, ap, ◌∙◌}
use mathlib.Core.Bool.{Bool, true, false, ◌&&◌, false≢true, and-eq-true_iff}
use mathlib.Core.List.{List, [], ◌∷◌, ◌++◌}
use lib.Dec.{eqb, leb}
use lib.ListN.{length, get_or, take, drop, set, length-append, length-drop, length-set}
use lib.Seq.{drop-cons}
use borrow.Author.Rules.{rules}
use borrow.Author.Tests.{eqb-true, le-leb, lt-leb}
use borrow.Rule.Slice.PartMut.{put_mid}
use Rattle.std.proofs.Common.{nat_eq, slice_range}
use Rattle.std.specs.Cmp.Lexicographic.{pointwise}
use Rattle.refusal.specs.Lists.{same_list, first_equal}
use Rattle.buffer.specs.Over.{lay}
use Rattle.buffer.proofs.Overs.{over-front, lay_put}
use Rattle.pool_rows.specs.Pools.{Kind, ascii, wide, size_at, rows_from, after_rows, in_threes}

-- Two rows that `==` compares

equal_is : (xs ys : List ℕ) → pointwise nat_eq xs ys ≡ same_list xs ys
unfolding same_list
equal_is [] [] = refl
equal_is [] (y ∷ ys) = refl
equal_is (x ∷ xs) [] = refl
equal_is (x ∷ xs) (y ∷ ys) = ap (λ (t : Bool). eqb x y && t) (equal_is xs ys)

-- .. of which one is the n numbers of a pool before a place
part_equal : (w row : List ℕ) (at n : ℕ) {e : ℕ} {t : Bool} → t ≡ pointwise nat_eq (slice_range w at e) row → e ≡ at + n →
    t ≡ same_list (take n (drop at w)) row
part_equal w row at n {e} q h =
    let m : e - at ≡ n = omega arith in
    q ∙ equal_is (slice_range w at e) row ∙ ap (λ (k : ℕ). same_list (take k (drop at w)) row) m

-- A wide row is compared by its count first, and then the ranges behind it

module _ (w : List ℕ) (at x : ℕ) (row : List ℕ) (h : at + size_at wide w at ≤ length w) where
  wide_split : same_list (take (size_at wide w at) (drop at w)) (x ∷ row) ≡ (eqb (get_or w at 0) x && same_list (take (get_or w at 0 * 3) (drop (at + 1) w)) row)
  unfolding same_list
  wide_split =
      let one : suc at ≡ at + 1 = omega arith in
      let size : size_at wide w at ≡ suc (get_or w at 0 * 3) = omega arith in
      rw (size, drop-cons w at 0 (omega arith), one)

  pub wide_differ : eqb (get_or w at 0) x ≡ false → eqb (get_or w at 0) x ≡ same_list (take (size_at wide w at) (drop at w)) (x ∷ row)
  wide_differ n = n ∙ sym (wide_split ∙ rw n)

  pub wide_same : {t : Bool} → eqb (get_or w at 0) x ≡ true → length row ≡ x * 3 → t ≡ pointwise nat_eq (slice_range w (at + 1) (at + 1 + length row)) row →
      t ≡ same_list (take (size_at wide w at) (drop at w)) (x ∷ row)
  wide_same e l f =
      let q : get_or w at 0 ≡ x = eqb-true (get_or w at 0) x e in
      part_equal w row (at + 1) (get_or w at 0 * 3) f (omega arith) ∙ sym (wide_split ∙ rw e)

  -- the ranges are in the pool
  pub wide_rest : eqb (get_or w at 0) x ≡ true → length row ≡ x * 3 → at + 1 + length row ≤ length w
  wide_rest e l = let q : get_or w at 0 ≡ x = eqb-true (get_or w at 0) x e in omega arith

pub ruleset comparing-wide = (rules, wide_differ, wide_same, wide_rest)

-- The rows that are left behind the first i, once for both kinds

one-less : (rows i : ℕ) → i < rows → rows - i ≡ suc (rows - (i + 1))
one-less rows i h = omega arith

pub after_≥ : (k : Kind) (w : List ℕ) (n at : ℕ) → at ≤ after_rows k w n at
unfolding after_rows
after_≥ k w zero at = omega arith
after_≥ k w (suc n) at = omega (arith, after_≥ k w n (at + size_at k w at))

module _ (k : Kind) (w : List ℕ) (rows i at : ℕ) (h : i < rows) where
  rows_open : rows_from k w (rows - i) at ≡ take (size_at k w at) (drop at w) ∷ rows_from k w (rows - (i + 1)) (at + size_at k w at)
  unfolding rows_from
  rows_open = ap (λ (n : ℕ). rows_from k w n at) (one-less rows i h)

  after_open : after_rows k w (rows - i) at ≡ after_rows k w (rows - (i + 1)) (at + size_at k w at)
  unfolding after_rows
  after_open = ap (λ (n : ℕ). after_rows k w n at) (one-less rows i h)

  module _ {e : ℕ} (b : after_rows k w (rows - i) at ≤ e) where
    pub row_within : at + size_at k w at ≤ e
    row_within = omega (arith, after_open, after_≥ k w (rows - (i + 1)) (at + size_at k w at))

    pub rows_within : {next : ℕ} → next ≡ at + size_at k w at → after_rows k w (rows - (i + 1)) next ≤ e
    rows_within n = rw (n, ← after_open) b

-- the loop's invariant: the first equal row stands as far behind as it does from here
abbrev pub Finding : Kind → List ℕ → ℕ → List ℕ → ℕ → ℕ → Type 0
Finding k w rows row i at =
    (i + first_equal row (rows_from k w (rows - i) at) ≡ first_equal row (rows_from k w rows 0)) × (after_rows k w (rows - i) at ≤ length w)

pub find_start : (k : Kind) (w : List ℕ) (rows : ℕ) (row : List ℕ) {at : ℕ} → after_rows k w rows 0 ≤ length w → at ≡ 0 → Finding k w rows row 0 at
find_start k w rows row h e = let z : rows - 0 ≡ rows = omega arith in rw (z, e) (omega arith, h)

module _ (k : Kind) (w row : List ℕ) (rows i at : ℕ) {all : ℕ} (g : i + first_equal row (rows_from k w (rows - i) at) ≡ all) where
  pub first_none : rows ≤ i → i ≤ rows → rows ≡ all
  unfolding first_equal rows_from
  first_none h l =
      let z : rows - i ≡ 0 = omega arith in
      let o : first_equal row (rows_from k w (rows - i) at) ≡ 0 = rw z in
      omega arith

  module _ (h : i < rows) {t : Bool} (e : t ≡ same_list (take (size_at k w at) (drop at w)) row) where
    pub first_here : t ≡ true → i ≡ all
    unfolding first_equal
    first_here f =
        let o : first_equal row (rows_from k w (rows - i) at) ≡ 0 = rw (rows_open k w rows i at h, sym e ∙ f) in
        omega arith

    pub first_next : t ≡ false → {next : ℕ} → next ≡ at + size_at k w at → i + 1 + first_equal row (rows_from k w (rows - (i + 1)) next) ≡ all
    unfolding first_equal
    first_next f n =
        let o : first_equal row (rows_from k w (rows - i) at) ≡ suc (first_equal row (rows_from k w (rows - (i + 1)) (at + size_at k w at)))
        = rw (rows_open k w rows i at h, sym e ∙ f) in
        rw n (omega arith)

-- .. of ascii rows, of which the next one stands 128 numbers behind

module _ (w row : List ℕ) (rows i : ℕ) (g : Finding ascii w rows row i (i * 128)) (h : i < rows) {e : ℕ} {t : Bool}
    (q : t ≡ pointwise nat_eq (slice_range w (i * 128) e) row)
    (m : e ≡ i * 128 + 128) where
  pub ascii_here : t ≡ true → i ≡ first_equal row (rows_from ascii w rows 0)
  ascii_here = first_here ascii w row rows i (i * 128) g.0 h (part_equal w row (i * 128) 128 q m)

  pub ascii_next : t ≡ false → Finding ascii w rows row (i + 1) ((i + 1) * 128)
  ascii_next f =
      let n : (i + 1) * 128 ≡ i * 128 + 128 = omega arith in
      (first_next ascii w row rows i (i * 128) g.0 h (part_equal w row (i * 128) 128 q m) f n, rows_within ascii w rows i (i * 128) h g.1 n)

-- .. of wide rows, whose count is read

pub count_within : (w : List ℕ) (rows i at : ℕ) → i < rows → after_rows wide w (rows - i) at ≤ length w → at < length w
count_within w rows i at h b = omega (arith, row_within wide w rows i at h b)

pub ruleset counts = (rules, count_within)

-- Where wide rows end, or that they lead outside

module _ (w : List ℕ) (rows i at : ℕ) {all : ℕ} (g : min (1 + length w) (after_rows wide w (rows - i) at) ≡ all) where
  pub end_next : {next : ℕ} → i < rows → next ≡ at + (1 + get_or w at 0 * 3) → min (1 + length w) (after_rows wide w (rows - (i + 1)) next) ≡ all
  end_next h n = rw (n, ← after_open wide w rows i at h) g

  pub end_outside : i < rows → length w ≤ at → min (1 + length w) (length w + 1) ≡ all
  end_outside h l = omega (arith, after_open wide w rows i at h, after_≥ wide w (rows - (i + 1)) (at + size_at wide w at))

  pub end_done : rows ≤ i → min (1 + length w) at ≡ all
  unfolding after_rows
  end_done h =
      let z : rows - i ≡ 0 = omega arith in
      let o : after_rows wide w (rows - i) at ≡ at = rw z in
      omega arith

pub ruleset ending = (rules, end_next, end_outside, end_done)

-- A row in threes: a range of three numbers, and the row behind it

module _ (range rest : List ℕ) {row : List ℕ} (e : row ≡ range ++ rest) (n : length range ≡ 3) where
  three_open : in_threes row ≡ (leb (get_or range 2 0) 65535 && in_threes rest)
  unfolding in_threes
  three_open = ap in_threes e ∙ go range n
    where
      go : (l : List ℕ) → length l ≡ 3 → in_threes (l ++ rest) ≡ (leb (get_or l 2 0) 65535 && in_threes rest)
      go (x ∷ y ∷ z ∷ []) n = refl
      go [] n = absurd (omega arith)
      go (x ∷ []) n = absurd (omega arith)
      go (x ∷ y ∷ []) n = absurd (omega arith)
      go (x ∷ y ∷ z ∷ u ∷ l) n = absurd (omega arith)

  pub three_left : {m : ℕ} → length row % 3 ≡ m → length rest % 3 ≡ m
  three_left h = omega (arith, ap length e, length-append range rest)

  module _ {all : Bool} (g : in_threes row ≡ all) where
    pub three_turn : get_or range 2 0 ≤ 65535 → in_threes rest ≡ all
    three_turn l = sym (three_open ∙ rw (le-leb (get_or range 2 0) 65535 l)) ∙ g

    pub three_stop : 65535 < get_or range 2 0 → false ≡ all
    three_stop l = sym (three_open ∙ rw (lt-leb (get_or range 2 0) 65535 l)) ∙ g

-- .. of fewer than three numbers it is good where it is empty
pub three_done : (row rest : List ℕ) {all : Bool} → in_threes rest ≡ all → length rest < 3 → length rest % 3 ≡ length row % 3 → eqb (length row % 3) 0 ≡ all
unfolding in_threes
three_done row [] g h m = let e : length row % 3 ≡ 0 = omega arith in rw e g
three_done row (x ∷ []) g h m = let e : length row % 3 ≡ 1 = omega arith in rw e g
three_done row (x ∷ y ∷ []) g h m = let e : length row % 3 ≡ 2 = omega arith in rw e g
three_done row (x ∷ y ∷ z ∷ l) g h m = absurd (omega arith)

pub ruleset threes = (rules, three_turn, three_stop, three_done)

-- such a row has three numbers a range
pub threes_length : (l : List ℕ) → in_threes l ≡ true → length l ≡ length l / 3 * 3
unfolding in_threes
threes_length [] e = refl
threes_length (x ∷ []) e = absurd (false≢true e)
threes_length (x ∷ y ∷ []) e = absurd (false≢true e)
threes_length (x ∷ y ∷ z ∷ l) e =
    let r : length l ≡ length l / 3 * 3 = threes_length l ((and-eq-true_iff (leb z 65535) (in_threes l)).0 e).1 in
    omega arith

-- A row that is laid into the pool: `copy_from_slice` writes it over so many numbers

pub laid-part : (at n : ℕ) (w xs : List ℕ) → n ≡ length xs → at + n ≤ length w → put_mid at n w xs ≡ lay at xs w
unfolding lay
laid-part at n w xs h l =
    ap (λ (k : ℕ). take at w ++ (xs ++ drop k (drop at w))) h
    ∙ ap (λ (ys : List ℕ). take at w ++ ys) (sym (over-front xs (drop at w) (omega (arith, length-drop at w))))

-- .. behind one number that is stored
pub stored-part : (at n x : ℕ) (w xs : List ℕ) → n ≡ length xs → at + 1 + n ≤ length w → put_mid (at + 1) n (set w at x) xs ≡ lay at (x ∷ xs) w
stored-part at n x w xs h l =
    laid-part (at + 1) n (set w at x) xs h (omega (arith, length-set w at x)) ∙ lay_put at x xs w (omega arith)
