-- The lists that are accepted fit the buffers that document 01 states, over the definitions and over the calls; and a row call that is lent as much never gives
-- ROOM. Assumes nothing.
use Prim.Native.Nat.{ℕ, suc, ◌*◌, ◌≤◌, ◌<◌}
use native.Mathlib.Omega.{arith}
use mathlib.Core.Path.{◌≡◌, refl, sym, ap, ap₂, ◌∙◌}
use mathlib.Core.Bool.{Bool, true, false}
use mathlib.Core.List.{List, [], ◌∷◌}
use mathlib.Core.Logic.{◌⊎◌, inl, inr, ⊎_elim}
use lib.Dec.{eqb, ltb}
use lib.ListN.{length}
use Rattle.std.specs.Borrow.{Bor, MutBor}
use Rattle.refusal.specs.Said.{no, ROOM}
use Rattle.refusal.specs.Lists.{pick}
use Rattle.refusal.specs.Fixed.{NONE, DEAD-STATE}
use Rattle.list_transitions.specs.Transition.{Transition}
use Rattle.list_transitions.specs.Read.{Parsed, parsed, refused, parse}
use Rattle.list_segments.specs.Segments.{cuts_of, starts, starts_from}
use Rattle.list_segments.specs.Answer as of-segments
use Rattle.list_segments.specs.Answer.{parse_for}
use Rattle.list_segments.proofs.Answers.{length-starts, few_segments}
use Rattle.list_masks.specs.Masks.{words_for, mask_of, matrix, flat, distinct_of}
use Rattle.list_masks.specs.Answer.{parse_masks, parse_distinct}
use Rattle.list_masks.proofs.Answers.{few_from}
use Rattle.list_masks.proofs.Packs.{length_masks, wide_masks, length-flat, few_wide}
use Rattle.list_masks.proofs.Keeps.{wide_distinct}
use Rattle.list_distinct.proofs.Distincts.{few_distinct}
use Rattle.list_distinct.proofs.PlaceAnswers.{accepted_list}
use Rattle.law_rows.specs.Row.{Row, segment, row_from, row_over, join, part_from}
use Rattle.law_rows.specs.Build.{target_of, cont_of, row_of, target_row, cont_row, wide_of, escape_of}
use Rattle.law_rows.proofs.Sizes.{length-join_to, length_part}
use Rattle.row_build.specs.declared.Rows.{Rows}
use Rattle.row_build.specs.Answer.{said}
use Rattle.row_build.proofs.Joining.{length-numbers}
use Rattle.lexer_dfa.specs.Demand3.{ListAccepted, list_of, RowArgs, RowsLeft, BuildAnswers, MatrixAnswers, DistinctAnswers}
use Rattle.lexer_dfa.specs.Fits.{Fits, Roomy}
use Rattle.lexer_dfa.proofs.Buffers.{length-distinct}
use Rattle.lexer_dfa.proofs.RowsOf.{listed_is, rows_of, counted_by}
use Rattle.lexer_dfa.specs.ListsRefused.{Bytes, DistinctLack, SegmentsAnswers}
use Rattle.lexer_dfa.proofs.ListsRefused.{build_rows_refuses}
use Rattle.std.specs.Prelude.{Result, Ok}
use Rattle.refusal.specs.declared.Refusal.{Refusal}

-- A row has no more ranges than there are segments

length-join : (rs : Row) → length (join rs) ≤ length rs
unfolding join
length-join [] = omega arith
length-join (r ∷ rs) = (length-join_to r rs).1

length_from : (d : ℕ) (f : ℕ → ℕ) (c : ℕ) (cs : List ℕ) → length (row_from d f c cs) ≤ length (starts_from c cs)
unfolding row_from starts_from
length_from d f c [] = omega arith
length_from d f c (n ∷ ns) = go (eqb (f c) d) (length_from d f n ns)
  where
    go : (t : Bool) → length (row_from d f n ns) ≤ length (starts_from n ns) →
        length (pick t (row_from d f n ns) (segment f c n ∷ row_from d f n ns)) ≤ suc (length (starts_from n ns))
    go true h = omega arith
    go false h = omega arith

length_over : (d : ℕ) (f : ℕ → ℕ) (cs : List ℕ) → length (row_over d f cs) ≤ length (starts cs)
unfolding row_over starts
length_over d f [] = omega arith
length_over d f (c ∷ cs) = length_from d f c cs

-- How much a list takes

module _ (w targets conts : List ℕ) (good : ListAccepted w) where
  abbrev ts : List Transition
  ts = list_of w

  few_ranges : (d : ℕ) (v : List ℕ → ℕ) → length (row_of d v ts) ≤ 2047
  unfolding row_of
  few_ranges d v = omega (arith, length_over d (λ p. v (mask_of ts p)) (cuts_of ts), few_segments w)

  four : words_for (length ts) ≤ 4
  four = omega (arith, few_from w 256 0 0 good)

  few_masks : length (matrix ts) ≤ 2047
  few_masks = omega (arith, length_masks ts (starts (cuts_of ts)), few_segments w)

  -- THEOREM: no accepted list takes more than document 01 states
  pub list_fits : Fits w targets conts
  list_fits =
      let all = wide_masks ts (starts (cuts_of ts)) in
      record {
        segments = omega (arith, length-starts (cuts_of ts), few_segments w);
        masks = omega (arith, few_wide (words_for (length ts)) (matrix ts) four all, few_masks);
        distinct =
            omega (
              arith,
              few_wide (words_for (length ts)) (distinct_of ts) four (wide_distinct (words_for (length ts)) [] (matrix ts) tt all),
              few_distinct [] (matrix ts),
              few_masks,
            );
        wide =
            omega (
              arith,
              length-numbers (wide_of ts targets),
              length-join (part_from 128 (target_row ts targets)),
              length_part 128 (target_row ts targets),
              few_ranges DEAD-STATE (target_of ts targets),
            );
        escape = omega (arith, length-numbers (escape_of ts targets conts), length-join (cont_row ts targets conts), few_ranges NONE (cont_of ts targets conts));
      }

-- THEOREM: and so no row call answers more numbers
pub rows_fit : (a : RowArgs) (n m : ℕ) (l : RowsLeft) → BuildAnswers a (Ok (record { wide = n; escape = m })) l → (n ≤ 6141) × (m ≤ 6141)
rows_fit a n m l b =
    let r = rows_of a n m l b in
    let f = list_fits a.list.now a.targets.now a.conts.now r.good in
    (omega (arith, r.laid.wide_count, f.wide), omega (arith, r.laid.escape_count, f.escape))

-- THEOREM: a row call that has the room that document 01 states never gives ROOM: it refuses for the records and for TARGETS, exactly when `ListRefused` says
-- so
module _ (a : RowArgs) (q : Roomy a) where
  enough : DistinctLack (length a.segments.now) (length a.masks.now) (length a.distinct.now) → ⊥
  enough (inl (inl h)) = omega (arith, h, q.segments_room)
  enough (inl (inr h)) = omega (arith, h, q.masks_room)
  enough (inr h) = omega (arith, h, q.distinct_room)

  enough_rows : (length a.ascii.now < 128) ⊎ (length a.wide.now < 6144) ⊎ (length a.escape.now < 6144) → ⊥
  enough_rows (inl h) = omega (arith, h, q.ascii_room)
  enough_rows (inr (inl h)) = omega (arith, h, q.wide_room)
  enough_rows (inr (inr h)) = omega (arith, h, q.escape_room)

  pub never_room : Bytes a.list.now → (x : Result Rows Refusal) (l : RowsLeft) → BuildAnswers a x l → (p : ℕ) → said x ≡ no ROOM p → ⊥
  never_room b x l r p e = ⊎_elim enough (λ h. enough_rows h.4) (((build_rows_refuses a b x l r).room p).0 e).1

-- The calls for segments and masks answer no more than fits

-- so many segments of a list that was read
told-segments : {n : ℕ} (x : Parsed) → of-segments.said (Ok n) ≡ of-segments.counted x →
    (ts : List Transition) × (x ≡ parsed ts) × (n ≡ length (starts (cuts_of ts)))
unfolding of-segments.counted
told-segments (parsed ts) e = (ts, refl, cc)
told-segments (refused k p) e = let z : ◌≡◌ {A = ℕ} 0 1 = cc in absurd (omega arith)

-- what is read was not refused for want of room
not_short : (b : Bool) {x : Parsed} {ts : List Transition} → pick b (refused ROOM 0) x ≡ parsed ts → x ≡ parsed ts
not_short true e = let z : ◌≡◌ {A = ℕ} 0 1 = cc in absurd (omega arith)
not_short false e = e

all_room : (s n : ℕ) (w : List ℕ) (us : List Transition) → parse_masks s n w ≡ parsed us → parse w ≡ parsed us
unfolding parse_masks parse_for
all_room s n w us e = not_short (ltb s 4096) (not_short (ltb n 8192) e)

-- "segments 4,096 numbers": two each
pub segments_fit : (list : Bor (List ℕ)) (out : MutBor (List ℕ)) (n : ℕ) (left : List ℕ) → SegmentsAnswers list out (Ok n) left → 2 * n ≤ 4094
unfolding parse_for
segments_fit list out n left b =
    let w = list.now in
    let c = told-segments (parse_for (length out.now) w) b.2.says in
    let read = listed_is (parse w) (not_short (ltb (length out.now) 4096) c.1) in
    omega (arith, c.2, ap (λ (x : List Transition). length (starts (cuts_of x))) read.1, few_segments w)

-- "masks 8,192 64-bit words"
pub masks_fit : (list : Bor (List ℕ)) (segments masks : MutBor (List ℕ)) (n k : ℕ) (s m : List ℕ) →
    MatrixAnswers list segments masks (Ok (record { masks = n; words = k })) s m → n * k ≤ 8188
masks_fit list segments masks n k s m b =
    let w = list.now in
    let c = counted_by matrix (parse_masks (length segments.now) (length masks.now) w) b.2.says in
    let ts = c.ts in
    let read = listed_is (parse w) (all_room (length segments.now) (length masks.now) w ts c.is) in
    let size : n * k ≡ length (flat (matrix ts)) = ap₂ (λ (x y : ℕ). x * y) c.count c.words
    ∙ sym (length-flat (words_for (length ts)) (matrix ts) (wide_masks ts (starts (cuts_of ts)))) in
    omega (arith, size, ap (λ (x : List Transition). length (flat (matrix x))) read.1, (list_fits w [] [] read.0).masks)

-- "distinct masks the same"
pub distinct_fit : (list : Bor (List ℕ)) (segments masks out : MutBor (List ℕ)) (n k : ℕ) (d : List ℕ) →
    DistinctAnswers list segments masks out (Ok (record { masks = n; words = k })) d → n * k ≤ 8188
distinct_fit list segments masks out n k d b =
    let w = list.now in
    let c = counted_by distinct_of (parse_distinct (length segments.now) (length masks.now) (length out.now) w) b.2.says in
    let ts = c.ts in
    let read = listed_is (parse w) (accepted_list (length segments.now) (length masks.now) (length out.now) w ts c.is) in
    let size : n * k ≡ length (flat (distinct_of ts)) = ap₂ (λ (x y : ℕ). x * y) c.count c.words ∙ sym (length-distinct ts) in
    omega (arith, size, ap (λ (x : List Transition). length (flat (distinct_of x))) read.1, (list_fits w [] [] read.0).distinct)
