-- The maximal looping ranges of a row, found from left to right. Assumes nothing.
use Prim.Native.Nat.{ℕ, zero, suc, ◌+◌, ◌-◌, ◌≤◌, ◌<◌}
use native.Mathlib.Nat.{add-zero}
use native.Mathlib.Numerals.{add-one}
use native.Mathlib.Omega.{arith}
use mathlib.Core.Path.{◌≡◌, refl, ap, sym, ◌∙◌}
use mathlib.Core.Bool.{Bool, true, false, not, and-false}
use mathlib.Core.List.{List, [], ◌∷◌, ◌++◌, append_assoc, append-nil}
use lib.Dec.{eqb}
use lib.ListN.{length, take, drop, set, replicate, length-append, length-set, length-drop, drop_of_length-le, take-append-drop}
use lib.Seq.{drop-drop, take-suc-set, drop-set-lt, length-take-le}
use borrow.Author.Tests.{eq-eqb, ne_eqb, le-leb, lt-leb}
use borrow.Author.Rules.{rules}
use mir.Val.{Fits}
use mir.Syntax.{w8}
use Rattle.refusal.specs.Lists.{pick, before}
use Rattle.refusal.proofs.Lists.{before_≤, before_pass, before-true, before-false, before-next, before_here, search_first}
use Rattle.run_ranges.specs.declared.AsciiRange.{AsciiRange}
use Rattle.std.specs.Prelude.{Some, None}
use Rattle.run_ranges.specs.Ranges.{range, loops_at, exits_at, joined, ranges_from, up_to_four, one_to_four, loop_ranges}

-- no range starts below k
abbrev pub StartsFrom : ℕ → List AsciiRange → Type 0
StartsFrom k [] = Unit {0}
StartsFrom k (r ∷ rs) = k ≤ r.low

joined-starts : (k : ℕ) (rs : List AsciiRange) → StartsFrom k (joined k rs)
unfolding joined
joined-starts k [] = omega arith
joined-starts k (r ∷ rs) = cases (eqb r.low (suc k)) where
  cases : (t : Bool) → StartsFrom k (pick t (range k r.high ∷ rs) (range k k ∷ r ∷ rs))
  cases true = omega arith
  cases false = omega arith

later : (k : ℕ) (rs : List AsciiRange) → StartsFrom (suc k) rs → StartsFrom k rs
later k [] h = tt
later k (r ∷ rs) h = omega arith

-- a looping symbol is apart from ranges that start later than behind it, and joins one that starts just there
joined_apart : (k : ℕ) (rs : List AsciiRange) → StartsFrom (suc (suc k)) rs → joined k rs ≡ range k k ∷ rs
unfolding joined
joined_apart k [] h = refl
joined_apart k (r ∷ rs) h = let n : r.low ≡ suc k → ⊥ = λ e. omega arith in rw (ne_eqb r.low (suc k) n)

joined_near : (k high : ℕ) (rs : List AsciiRange) → joined k (range (suc k) high ∷ rs) ≡ range k high ∷ rs
unfolding joined
joined_near k high rs = rw (eq-eqb (suc k) (suc k) refl)

module _ (state : ℕ) where
  ranges_loop : (k t : ℕ) (ts : List ℕ) → loops_at state t ≡ true → ranges_from state k (t ∷ ts) ≡ joined k (ranges_from state (suc k) ts)
  unfolding ranges_from
  ranges_loop k t ts e = rw e

  ranges_exit : (k t : ℕ) (ts : List ℕ) → loops_at state t ≡ false → ranges_from state k (t ∷ ts) ≡ ranges_from state (suc k) ts
  unfolding ranges_from
  ranges_exit k t ts e = rw e

  pub ranges_none : (k : ℕ) → ranges_from state k [] ≡ []
  unfolding ranges_from
  ranges_none k = refl

  starts : (k : ℕ) (ts : List ℕ) → StartsFrom k (ranges_from state k ts)
  unfolding ranges_from
  starts k [] = tt
  starts k (t ∷ ts) = cases (loops_at state t) (starts (suc k) ts) where
    cases : (b : Bool) → StartsFrom (suc k) (ranges_from state (suc k) ts)
        → StartsFrom k (pick b (joined k (ranges_from state (suc k) ts)) (ranges_from state (suc k) ts))
    cases true h = joined-starts k (ranges_from state (suc k) ts)
    cases false h = later k (ranges_from state (suc k) ts) h

  -- symbols that do not loop are passed over
  pub ranges_skip : (k n : ℕ) (ts : List ℕ) → n ≡ before (loops_at state) ts → ranges_from state k ts ≡ ranges_from state (k + n) (drop n ts)
  ranges_skip = search_first (loops_at state) (ranges_from state) (λ k. ranges_none k ∙ sym (ranges_none 0)) ranges_exit

  -- behind a symbol that does not loop no range starts at it
  exit_starts : (k : ℕ) (ts : List ℕ) → before (exits_at state) ts ≡ 0 → StartsFrom (suc k) (ranges_from state k ts)
  exit_starts k [] h = rw ranges_none tt
  exit_starts k (t ∷ ts) h = cases (loops_at state t) refl where
    cases : (b : Bool) → loops_at state t ≡ b → StartsFrom (suc k) (ranges_from state k (t ∷ ts))
    cases true e = absurd (omega (arith, before-false (exits_at state) {x = t} ts (ap not e)))
    cases false e = rw (ranges_exit k t ts e) (starts (suc k) ts)

  -- symbols that loop, up to one that does not, are a range
  pub ranges_take : (k n : ℕ) (ts : List ℕ) → before (exits_at state) ts ≡ suc n
      → ranges_from state k ts ≡ range k (k + n) ∷ ranges_from state (k + suc n) (drop (suc n) ts)
  ranges_take k n [] h = absurd (omega (arith, before_≤ (exits_at state) []))
  ranges_take k n (t ∷ ts) h = cases (loops_at state t) refl n h (λ m. ranges_take (suc k) m ts) where
    cases : (b : Bool) → loops_at state t ≡ b → (n : ℕ) → before (exits_at state) (t ∷ ts) ≡ suc n → ((m : ℕ)
        → before (exits_at state) ts ≡ suc m → ranges_from state (suc k) ts ≡ range (suc k) (suc k + m) ∷ ranges_from state (suc k + suc m) (drop (suc m) ts))
        → ranges_from state k (t ∷ ts) ≡ range k (k + n) ∷ ranges_from state (k + suc n) (drop n ts)
    cases false e n h r = absurd (omega (arith, before-true (exits_at state) {x = t} ts (ap not e)))
    cases true e zero h r =
        let z : before (exits_at state) ts ≡ 0 = omega (arith, before-false (exits_at state) {x = t} ts (ap not e)) in
        let k1 : k + 1 ≡ suc k = omega arith in
        rw (ranges_loop k t ts e, joined_apart k (ranges_from state (suc k) ts) (exit_starts (suc k) ts z), add-zero, k1)
    cases true e (suc m) h r =
        let z : before (exits_at state) ts ≡ suc m = omega (arith, before-false (exits_at state) {x = t} ts (ap not e)) in
        let k1 : suc k + m ≡ k + suc m = omega arith in
        let k2 : suc k + suc m ≡ k + suc (suc m) = omega arith in
        rw (ranges_loop k t ts e, r m z, joined_near, k1, k2)

-- What the search for the ranges has when it looks at a symbol: the first `count` places hold the ranges below `low`, which loops, and the rest are 0.
pub record Going (state : ℕ) (row : List ℕ) (ranges : List AsciiRange) (count low : ℕ) : Type 0 where
  pub whole : length row ≡ 128
  pub few : count ≤ 4
  pub long : length ranges ≡ 4
  pub inside : low ≤ length row
  pub loops : before (loops_at state) (drop low row) ≡ 0
  pub found : take count ranges ++ ranges_from state low (drop low row) ≡ ranges_from state 0 row
  pub clear : drop count ranges ≡ replicate (4 - count) (range 0 0)

module _ (state : ℕ) (row : List ℕ) where
  -- at the first symbol that loops, with no range yet
  pub start : {low : ℕ} → length row ≡ 128 → low ≡ 0 + before (loops_at state) row → Going state row (replicate 4 (range 0 0)) 0 low
  start {low} w h =
      let l : low ≡ before (loops_at state) row = omega arith in
      let z : 0 + low ≡ low = omega arith in
      record {
        whole = w;
        few = omega arith;
        long = refl;
        inside = omega (arith, before_≤ (loops_at state) row);
        loops = before-next (loops_at state) row 0 h;
        found = sym (ranges_skip state 0 low row l ∙ (rw z));
        clear = refl;
      }

  module _ {ranges : List AsciiRange} {count low : ℕ} (g : Going state row ranges count low) where
    -- the ranges are all found
    all_found : length row ≤ low → take count ranges ≡ ranges_from state 0 row
    all_found h = let f = g.found in simp (drop_of_length-le row h, ranges_none, append-nil) at f

    pub done : length row ≤ low → (count ≡ 0 → ⊥) → Some (record { ranges = ranges; count = count }) ≡ one_to_four (loop_ranges state row)
    unfolding one_to_four up_to_four loop_ranges
    done h z = let n : length (take count ranges) ≡ count = length-take-le count ranges (omega (arith, g.few, g.long)) in
        let one : 1 ≤ count = omega arith in
        rw (g.whole, ← all_found h, n, le-leb 1 count one, le-leb count 4 g.few, ← g.clear, take-append-drop)

    -- there are none
    pub empty : length row ≤ low → count ≡ 0 → None ≡ one_to_four (loop_ranges state row)
    unfolding one_to_four loop_ranges
    empty h z = rw (g.whole, ← all_found h, z)

    -- the symbol at `low` loops, so that a range of one symbol at least starts there
    pub longer : (h : low < length row) → before (exits_at state) (drop low row) ≡ suc (before (exits_at state) (drop (low + 1) row))
    longer h = omega (arith, before_pass (exits_at state) row low h (ap not (before_here (loops_at state) row low h g.loops)))

    -- the range at `low`, and the ranges behind it
    pub found-next : {end : ℕ} → low < length row → end ≡ low + before (exits_at state) (drop low row)
        → ranges_from state low (drop low row) ≡ range low (end - 1) ∷ ranges_from state end (drop end row)
    found-next {end} h e =
        let n = before (exits_at state) (drop (low + 1) row) in
        let z : low + suc n ≡ end = omega (arith, longer h) in
        let y : low + n ≡ end - 1 = omega arith in
        ranges_take state low n (drop low row) (longer h) ∙ (rw (drop-drop (suc n) low row, z, y))

    -- a fifth range: there are too many
    pub full : low < length row → count ≡ 4 → None ≡ one_to_four (loop_ranges state row)
    unfolding one_to_four loop_ranges
    full h c =
        let n : length (take count ranges) ≡ count = length-take-le count ranges (omega (arith, g.few, g.long)) in
        let l = simp length-append at (ap length g.found) in
        let r = ap length (found-next h refl) in
        let five : 4 < length (ranges_from state 0 row) = omega arith in
        rw (g.whole, lt-leb (length (ranges_from state 0 row)) 4 five, and-false)

    inside_end : {end : ℕ} → end ≡ low + before (exits_at state) (drop low row) → end ≤ length row
    inside_end e = omega (arith, before_≤ (exits_at state) (drop low row), length-drop low row, g.inside)

    -- one more range is found, and the search goes on behind it
    pub again : {end low' : ℕ} → low < length row → (count ≡ 4 → ⊥) → end ≡ low + before (exits_at state) (drop low row) →
        low' ≡ end + before (loops_at state) (drop end row) →
        Going state row (set ranges count (range low (end - 1))) (count + 1) low'
    again {end} {low'} h c e l =
        let v = range low (end - 1) in
        let few : count + 1 ≤ 4 = omega (arith, g.few) in
        let k : count < length ranges = omega (arith, g.long) in
        let at-end : end ≤ length row = inside_end e in
        let m = before (loops_at state) (drop end row) in
        let skipped : ranges_from state end (drop end row) ≡ ranges_from state low' (drop low' row) =
        ranges_skip state end m (drop end row) refl ∙ (rw (drop-drop m end row, ← l)) in
        let one : 4 - count ≡ suc (4 - (count + 1)) = omega arith in
        record {
          whole = g.whole;
          few = few;
          long = length-set ranges count v ∙ g.long;
          inside = omega (arith, before_≤ (loops_at state) (drop end row), length-drop end row);
          loops = before-next (loops_at state) row end l;
          found = rw (add-one, take-suc-set ranges count v k, append_assoc, ← skipped, ← found-next h e) g.found;
          clear = rw (drop-set-lt (count + 1) ranges count v (omega arith), ← drop-drop 1 count ranges, g.clear, one);
        }

    -- the numbers of that turn
    pub onward : {end low' : ℕ} → low < length row → end ≡ low + before (exits_at state) (drop low row) → low' ≡ end + before (loops_at state) (drop end row)
        → length row - low' < length row - low
    onward h e l = omega (arith, longer h)

    pub some_end : {end : ℕ} → low < length row → end ≡ low + before (exits_at state) (drop low row) → 1 ≤ end
    some_end h e = omega (arith, longer h)

    pub high_fits : {end : ℕ} → end ≡ low + before (exits_at state) (drop low row) → Fits w8 (end - 1)
    high_fits {end} e = record { fits = omega (arith, inside_end e, g.whole) }

    pub low_fits : low < length row → Fits w8 low
    low_fits h = record { fits = omega (arith, g.whole) }

    pub place : (count ≡ 4 → ⊥) → count < 4
    place c = omega (arith, g.few)

-- a row that is not 128 long
pub no_row : (state : ℕ) (row : List ℕ) → (length row ≡ 128 → ⊥) → None ≡ one_to_four (loop_ranges state row)
unfolding one_to_four loop_ranges
no_row state row h = rw (ne_eqb (length row) 128 h)

pub ruleset looking = (rules, start, done, empty, full, again, onward, some_end, high_fits, low_fits, place, no_row)
