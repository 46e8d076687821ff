-- A room that is judged a table holds one, and there the ranges of a state's wide row count the points that the lookups find. Assumes nothing.
use Prim.Native.Nat.{ℕ, zero, suc, ◌+◌, ◌*◌, ◌≤◌, ◌<◌}
use native.Mathlib.Omega.{arith}
use mathlib.Core.Path.{◌≡◌, refl, sym, ap, subst, ◌∙◌}
use mathlib.Core.Bool.{Bool, true, false}
use mathlib.Core.List.{List, [], ◌∷◌, ◌++◌}
use lib.Dec.{ltb}
use lib.ListN.{length, get_or, drop, length-take}
use lib.Seq.{get_or-take}
use mir.Syntax.{w32}
use mir.Val.{Fits}
use borrow.Author.Tests.{lt-ltb, le-ltb, eq-eqb, ltb-true, ltb-false}
use Rattle.refusal.specs.Said.{ok, no, STATE}
use Rattle.refusal.specs.Lists.{pick, each}
use Rattle.refusal.specs.Fixed.{DEAD-STATE}
use Rattle.refusal.specs.Header.{STATES-START, HEADER-NUMBERS, word_count}
use Rattle.std.specs.Prelude.{Ok}
use Rattle.room_fill.specs.Room.{room_for}
use Rattle.room_find.specs.Room.{state_at, follow}
use Rattle.room_decode.specs.Decode.{kept_from, room_of}
use Rattle.room_judge.specs.Judge.{words_part, is_table}
use Rattle.room_judge.proofs.Tables.{laid, accepted_table, own_words}
use Rattle.law_tables.specs.Table.{Table, Range, Fields, All, words_of, range_words}
use Rattle.law_tables.specs.Rules.{Rules, Good, Searchable}
use Rattle.law_tables.specs.Whole.{Fit}
use Rattle.law_tables.specs.Places.{sections_of, broken_of}
use Rattle.law_tables.proofs.Codec.{on, at_head}
use Rattle.law_tables.proofs.Obeyed.{obeys_accepted}
use Rattle.law_lookups.specs.Looks.{goal_at, state_of, char_target_of}
use Rattle.law_tables.proofs.Sizes.{threes}
use Rattle.law_lookups.proofs.Stands.{inside, all_nth}
use Rattle.law_lookups.proofs.Held.{Held, held}
use Rattle.law_lookups.proofs.Looked.{state_place, state_at_lem, state_none, of_state_lem, number_wide, has_rows, wide_row_lem, char_is}
use Rattle.room_coverage.specs.Coverage.{lives, not_dead, goes_on, count, covered, coverage_of}
use Rattle.room_coverage.specs.Spans.{wide_spans}
use Rattle.room_coverage.specs.OnTable.{coverage_on}
use Rattle.room_coverage.proofs.Counts.{count_same, count_from}
use Rattle.room_coverage.proofs.Rows.{row-counted}

-- each number of the room has 32 bits
abbrev pub Numbers : List ℕ → Type 0
Numbers d = (i : ℕ) → Fits w32 (get_or d i 0)

numbers-drop : (n : ℕ) (d : List ℕ) → Numbers d → Numbers (drop n d)
numbers-drop zero d f = f
numbers-drop (suc n) [] f = f
numbers-drop (suc n) (x ∷ d) f = numbers-drop n d (λ i. f (suc i))

part_fits : (d : List ℕ) → Numbers d → Fit (words_part d)
unfolding words_part
part_fits d f i h =
    let n = word_count d in
    let l : i < n = omega (arith, length-take n (drop HEADER-NUMBERS d)) in
    subst (λ x. x < 4294967296) (sym (get_or-take n (drop HEADER-NUMBERS d) i 0 l)) (omega (arith, (numbers-drop HEADER-NUMBERS d f i).fits))

-- what decoding leaves for a table
table_kept : (t : Table) → Fields t → Rules t → length (words_of t) ≤ 8192 → (n : ℕ) → 16384 ≤ n
    → room_of (words_of t) n ≡ room_for (words_of t) n (Ok (sections_of t))
unfolding kept_from
table_kept t h r l n room = rw (laid t h r l n room, eq-eqb (broken_of t) 0 (obeys_accepted t h l r).1)

-- a room that is a table holds one
pub table_held : (d : List ℕ) → Numbers d → is_table d ≡ true → (t : Table) × Fields t × Rules t × Held t d
table_held d f h =
    let n = length d in
    let o = own_words d h in
    let a = accepted_table (words_part d) n (part_fits d f) o.0 in
    let t = a.0 in
    let l : length (words_of t) ≤ 8192 = subst (λ v. length v ≤ 8192) a.3 a.4 in
    let e : d ≡ room_for (words_of t) n (Ok (sections_of t)) = o.1 ∙ ap (λ v. room_of v n) a.3 ∙ table_kept t a.1 a.2 l n a.5 in
    (t, a.1, a.2, subst (Held t) (sym e) (held t a.1 l n))

module _ (t : Table) (h : Fields t) (r : Rules t) (d : List ℕ) (k : Held t d) (s : ℕ) (l : s < length t.states) where
  abbrev ranges : List Range
  ranges = get_or t.wide (state_of t s).wide []

  -- by its ranges
  by_ranges_lem : wide_spans d (state_of t s).wide ≡ count (λ i. lives (goal_at DEAD-STATE ranges (128 + i))) 1113984
  unfolding wide_spans follow
  by_ranges_lem =
      let m = (has_rows t h r d k s l).1 in
      let q = wide_row_lem t h r d k (state_of t s).wide m in
      let p = q.0 in
      let z = q.2 in
      let n : get_or d p 0 ≡ length ranges = at_head z.stands in
      let room : length ranges * 3 + p < length d = omega (arith, z.ends, inside k.wide, threes range_words (λ y. refl) ranges) in
      let searchable = (all_nth (λ row. Searchable row × All (λ y. Good t y.goal) row) t.wide (state_of t s).wide [] r.rule6 m).0 in
      rw (q.1, n, lt-ltb _ _ room)
      (row-counted d ranges (p + 1) z.post searchable (on (length ranges ∷ []) (each range_words ranges ++ z.post) z.stands))

  -- by its points
  by_points : (i : ℕ) → goes_on d s (128 + i) ≡ lives (goal_at DEAD-STATE ranges (128 + i))
  by_points i =
      let b : 128 ≤ 128 + i = omega arith in
      ap not_dead (char_is t h r d k s (128 + i)) ∙ (rw (lt-ltb s (length t.states) l, le-ltb (128 + i) 128 b))

  points_are : count (goes_on d s) 128 + wide_spans d (state_of t s).wide ≡ covered d s
  unfolding covered
  points_are =
      let e = by_ranges_lem ∙ sym (count_same (λ i. goes_on d s (128 + i)) (λ i. lives (goal_at DEAD-STATE ranges (128 + i))) 1113984 by_points) in
      ap (λ n. count (goes_on d s) 128 + n) e ∙ sym (count_from (goes_on d s) 128 1113984)

-- coverage of a room that is a table is that of the table it holds
pub held_coverage : (t : Table) → Fields t → Rules t → (d : List ℕ) → Held t d → is_table d ≡ true → (s : ℕ) → coverage_of d s ≡ coverage_on t s
unfolding coverage_of covered
held_coverage t h r d k i s =
    let e = count_same (goes_on d s) (λ x. not_dead (char_target_of t s x)) 1114112 (λ x. ap not_dead (char_is t h r d k s x)) in
    (rw i) ∙ of_state_lem t h r d k s (λ p. ok (count (goes_on d s) 1114112 ∷ [])) (ok (count (goes_on d s) 1114112 ∷ [])) (λ p l z. refl)
    ∙ ap (λ n. pick (ltb s (length t.states)) (ok (n ∷ [])) (no STATE 0)) e

-- a state that is found in a table
pub state_covered : (d : List ℕ) → Numbers d → is_table d ≡ true → (s p : ℕ) → state_at d s ≡ Ok p
    → count (goes_on d s) 128 + wide_spans d (get_or d (p + 1) 0) ≡ covered d s
state_covered d f h s p e =
    let a = table_held d f h in
    go a.0 a.1 a.2 a.3 (ltb s (length a.0.states)) refl
  where
    go : (t : Table) → Fields t → Rules t → Held t d → (b : Bool) → ltb s (length t.states) ≡ b
        → count (goes_on d s) 128 + wide_spans d (get_or d (p + 1) 0) ≡ covered d s
    go t h r k true u =
        let l = ltb-true _ _ u in
        let o = sym e ∙ state_at_lem t h r d k s l in
        let q : p ≡ s * 4 + get_or d STATES-START 0 + 1 = cc in
        let n : get_or d (p + 1) 0 ≡ (state_of t s).wide = ap (λ m. get_or d (m + 1) 0) q ∙ number_wide t h r d k s (state_place t h r d k s l) in
        ap (λ m. count (goes_on d s) 128 + wide_spans d m) n ∙ points_are t h r d k s l
    go t h r k false u =
        let o = sym e ∙ state_none t h r d k s (ltb-false _ _ u) in
        let z : ◌≡◌ {A = ℕ} 0 1 = cc in
        absurd (omega arith)
