-- POINT LAW: the target and the continuation that the built rows give at a point are those of the point's mask, by the records; and a nonempty mask has its
-- place among the distinct ones. ts is the list, `targets` and `conts` are what was given. Assumes nothing.
use Prim.Native.Nat.{ℕ, ◌≤◌, ◌<◌, max}
use mathlib.Core.Path.{◌≡◌, refl, sym, ap, ◌∙◌}
use mathlib.Core.Logic.{inl, inr, ⊎_elim}
use mathlib.Core.Bool.{Bool, true, false, false≢true}
use mathlib.Core.List.{List, [], ◌∷◌}
use native.Mathlib.Omega.{arith}
use native.Mathlib.Nat.{zero-add}
use lib.ListN.{length, get_or}
use borrow.Author.Tests.{lt-ltb, le-ltb, eq-eqb}
use Rattle.refusal.specs.Fixed.{NONE, DEAD-STATE}
use Rattle.list_transitions.specs.Transition.{Transition, points}
use Rattle.list_transitions.specs.Intervals.{Span, bits_at, all_intervals}
use Rattle.list_transitions.proofs.Accepted.{AllInOrder}
use Rattle.list_transitions.proofs.Holds.{bits_hold, intervals_all_le}
use Rattle.list_transitions.proofs.Order.{le_cases}
use Rattle.list_segments.specs.Segments.{Asc, cuts_of, starts}
use Rattle.list_masks.specs.Masks.{pack, words_for, mask_of, masks_at, is_zero, index, distinct_of}
use Rattle.list_masks.proofs.Keeps.{Has}
use Rattle.law_lookups.specs.Looks.{goal_at}
use Rattle.law_rows.specs.Row.{Row, part_from, target_in, Sorted}
use Rattle.law_rows.specs.Build.{given, target_of, cont_of, row_of, target_row, cont_row, ascii_of, wide_of, escape_of}
use Rattle.law_rows.proofs.Searches.{Upto}
use Rattle.law_rows.proofs.Joins.{Live, look_join}
use Rattle.law_rows.proofs.Parts.{look_part, sorted_part, get_d_values}
use Rattle.law_rows.proofs.Cuts.{In, cover_cut, each-cut, asc_cut}
use Rattle.law_rows.proofs.Segments.{Clear, Outside, Floor, no_bits, bits_same, bits_none, floor}
use Rattle.law_rows.proofs.Sampled.{Stepped, look_over, sorted_over, live_over, upto_over, same_over, starts-below}
use Rattle.law_rows.proofs.Masks.{Blank, blank-zero}
use Rattle.law_rows.proofs.Distinct.{Among, has_distinct}

-- What was given

pub given-none : (d : ℕ) (ds : List (List ℕ)) (vs m : List ℕ) → is_zero m ≡ true → given d ds vs m ≡ d
unfolding given
given-none d ds vs m z = rw z

pub given_at : (d : ℕ) (ds : List (List ℕ)) (vs m : List ℕ) → is_zero m ≡ false → given d ds vs m ≡ get_or vs (index ds m) d
unfolding given
given_at d ds vs m z = rw z

cont_none : (ts : List Transition) (targets conts m : List ℕ) → is_zero m ≡ true → cont_of ts targets conts m ≡ NONE
cont_none ts targets conts m z = rw (eq-eqb (target_of ts targets m) DEAD-STATE (given-none DEAD-STATE (distinct_of ts) targets m z))

-- Cuts and masks of a list. A mask by the intervals changes at cuts only, and is that by the records at every point

blank_none : (ss : List (List Span)) → Blank (no_bits ss)
unfolding no_bits
blank_none [] = tt
blank_none (s ∷ ss) = (refl, blank_none ss)

module _ (ts : List Transition) where
  abbrev span_mask : ℕ → List ℕ
  span_mask p = pack (words_for (length ts)) (bits_at (all_intervals ts) p)

  pub asc_cuts : Asc 0 (cuts_of ts)
  unfolding cuts_of
  asc_cuts = asc_cut (all_intervals ts) [] tt

  pub le_cuts : (x : ℕ) → In x (cuts_of ts) → x ≤ points
  unfolding cuts_of
  le_cuts = each-cut (λ x. x ≤ points) (all_intervals ts) [] (intervals_all_le ts) (λ x i. absurd i)

  span_same : (c n p : ℕ) → Clear (cuts_of ts) c n → c ≤ p → p < n → span_mask p ≡ span_mask c
  unfolding cuts_of
  span_same c n p k l h = ap (pack (words_for (length ts))) (bits_same (cuts_of ts) c n p (all_intervals ts) k (cover_cut (all_intervals ts) []) l h)

  span_none : (p : ℕ) → Outside (cuts_of ts) p → is_zero (span_mask p) ≡ true
  unfolding cuts_of
  span_none p o =
      ap (λ (b : List Bool). is_zero (pack (words_for (length ts)) b)) (bits_none (cuts_of ts) p (all_intervals ts) o (cover_cut (all_intervals ts) []))
      ∙ blank-zero (words_for (length ts)) (no_bits (all_intervals ts)) (blank_none (all_intervals ts))

  -- any value of the mask that is d at the empty mask changes at cuts only
  stepped : (d : ℕ) (v : List ℕ → ℕ) → ((m : List ℕ) → is_zero m ≡ true → v m ≡ d) → Stepped d (λ p. v (span_mask p)) (cuts_of ts)
  stepped d v z = record { same = λ c n p k l h. ap v (span_same c n p k l h); none = λ p o. z (span_mask p) (span_none p o) }

  mask_is : AllInOrder ts → (p : ℕ) → p < points → mask_of ts p ≡ span_mask p
  unfolding mask_of
  mask_is a p h = ap (pack (words_for (length ts))) (sym (bits_hold ts p a h))

  -- every point of a segment has the mask of its first, and a point in no segment the empty one
  pub mask_same : AllInOrder ts → (c n p : ℕ) → p < points → Clear (cuts_of ts) c n → c ≤ p → p < n → mask_of ts p ≡ mask_of ts c
  mask_same a c n p h k l g = mask_is a p h ∙ span_same c n p k l g ∙ sym (mask_is a c (omega arith))

  pub mask_none : AllInOrder ts → (p : ℕ) → p < points → Outside (cuts_of ts) p → is_zero (mask_of ts p) ≡ true
  mask_none a p h o = ap is_zero (mask_is a p h) ∙ span_none p o

  -- What either row is, before it is parted and joined: v gives the goals, and d is left out

  module _ (d : ℕ) (v : List ℕ → ℕ) where
    pub sorted_row : Sorted 0 (row_of d v ts)
    unfolding row_of
    sorted_row = sorted_over d _ (cuts_of ts) asc_cuts

    pub live_row : Live d (row_of d v ts)
    unfolding row_of
    live_row = live_over d (λ p. v (mask_of ts p)) (cuts_of ts)

    pub upto_row : Upto 1114111 (row_of d v ts)
    unfolding row_of
    upto_row = upto_over 1114111 d (λ p. v (mask_of ts p)) (cuts_of ts) le_cuts

    -- SAMPLING, over masks: the row of what v gives each segment's mask answers v of each point's mask
    look_row : ((m : List ℕ) → is_zero m ≡ true → v m ≡ d) → AllInOrder ts → (p : ℕ) → p < points → goal_at d (row_of d v ts) p ≡ v (mask_of ts p)
    unfolding row_of
    look_row z a p h =
        ap (λ (rs : Row). goal_at d rs p)
        (same_over d (λ p. v (mask_of ts p)) (λ p. v (span_mask p)) (cuts_of ts)
        (λ x i. ap v (mask_is a x (starts-below points (cuts_of ts) x asc_cuts le_cuts i))))
        ∙ look_over d (λ p. v (span_mask p)) (cuts_of ts) asc_cuts (stepped d v z) p
        ∙ ap v (sym (mask_is a p h))

  look_targets : (targets : List ℕ) → AllInOrder ts → (p : ℕ) → p < points → goal_at DEAD-STATE (target_row ts targets) p ≡ target_of ts targets (mask_of ts p)
  look_targets targets = look_row DEAD-STATE (target_of ts targets) (given-none DEAD-STATE (distinct_of ts) targets)

  -- the target at a point
  pub target_law : (targets : List ℕ) → AllInOrder ts → (p : ℕ) → p < points →
      target_in (ascii_of ts targets) (wide_of ts targets) p ≡ target_of ts targets (mask_of ts p)
  target_law targets a p h =
      le_cases 128 p
      (λ k.
      rw (le-ltb p 128 k)
      (look_join DEAD-STATE (max 0 128) (part_from 128 (target_row ts targets)) p
      (sorted_part 0 128 (target_row ts targets) (sorted_row DEAD-STATE (target_of ts targets)))
      ∙ look_part DEAD-STATE 128 (target_row ts targets) p k
      ∙ look_targets targets a p h))
      (λ k.
      rw (lt-ltb p 128 k)
      (get_d_values (goal_at DEAD-STATE (target_row ts targets)) 0 128 p 0 k
      ∙ ap (goal_at DEAD-STATE (target_row ts targets)) (zero-add p)
      ∙ look_targets targets a p h))

  -- the continuation at a point
  pub cont_law : (targets conts : List ℕ) → AllInOrder ts → (p : ℕ) → p < points →
      goal_at NONE (escape_of ts targets conts) p ≡ cont_of ts targets conts (mask_of ts p)
  cont_law targets conts a p h =
      look_join NONE 0 (cont_row ts targets conts) p (sorted_row NONE (cont_of ts targets conts))
      ∙ look_row NONE (cont_of ts targets conts) (cont_none ts targets conts) a p h

  -- The place of a mask

  among : (cs : List ℕ) (c : ℕ) → In c cs → Among (mask_of ts c) (masks_at ts cs)
  unfolding masks_at
  among [] c i = absurd i
  among (x ∷ cs) c (inl e) = inl (ap (mask_of ts) e)
  among (x ∷ cs) c (inr i) = inr (among cs c i)

  -- a point that some transition holds has its mask among the distinct ones
  pub place_law : AllInOrder ts → (p : ℕ) → p < points → is_zero (mask_of ts p) ≡ false → Has (distinct_of ts) (mask_of ts p)
  place_law a p h z =
      ⊎_elim
      (λ o. absurd (false≢true (sym z ∙ mask_none a p h o)))
      (λ (w : Floor (cuts_of ts) (starts (cuts_of ts)) p).
      let e : mask_of ts p ≡ mask_of ts w.start = mask_same a w.start w.next p h w.clear w.low w.high in
      rw e (has_distinct [] (masks_at ts (starts (cuts_of ts))) (mask_of ts w.start) (sym (ap is_zero e) ∙ z)
      (among (starts (cuts_of ts)) w.start w.is_start)))
      (floor (cuts_of ts) p asc_cuts)
