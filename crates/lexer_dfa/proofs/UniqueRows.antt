-- Each contract of the calls on transition lists and on pools determines the answer, and what is left in every buffer that is lent. Assumes nothing.
use Prim.Native.Nat.{ℕ}
use mathlib.Core.Path.{◌≡◌, refl, sym, ap₂, ◌∙◌}
use mathlib.Core.List.{List, [], ◌∷◌}
use Rattle.list_transitions.proofs.read_transitions.Reads as read-transitions
use Rattle.list_transitions.proofs.read_intervals.Reads as read-intervals
use Rattle.list_transitions.proofs.Records as transitions
use Rattle.list_segments.proofs.char_segments.Reads as char-segments
use Rattle.list_segments.proofs.Answers as segments
use Rattle.list_masks.proofs.segment_mask_matrix.Reads as segment-mask-matrix
use Rattle.list_distinct.proofs.distinct_masks.Reads as distinct-masks
use Rattle.list_masks.proofs.Answers as masks
use Rattle.pool_rows.proofs.refuse.Reads as refuse
use Rattle.pool_ascii.proofs.intern_ascii.Reads as intern-ascii
use Rattle.pool_wide.proofs.intern_wide.Reads as intern-wide
use Rattle.pool_rows.proofs.Answers as pools
use Rattle.law_unique.specs.Unique.{Determines, DeterminesBoth, DeterminesAll}

-- the lists in one buffer, and in those behind it
pub and : {x y : List ℕ} {l m : List (List ℕ)} → x ≡ y → l ≡ m → x ∷ l ≡ y ∷ m
and a b = ap₂ {C = List (List ℕ)} (λ x l. x ∷ l) a b

-- transitions

pub read_transitions_unique : Determines read-transitions.Learnt
read_transitions_unique κs a x y e f p q = transitions.said_one x y (p ∙ sym q)

pub read_intervals_unique : DeterminesBoth (λ κs e. e.1.0) read-intervals.Learnt
read_intervals_unique κs a x y e f p q = (transitions.said_one x y (p.says ∙ sym q.says), p.leaves ∙ sym q.leaves)

-- segments

pub char_segments_unique : DeterminesBoth (λ κs e. e.1.0) char-segments.Learnt
char_segments_unique κs a x y e f p q = (segments.said_one x y (p.says ∙ sym q.says), p.leaves ∙ sym q.leaves)

-- masks: the segments, and the masks

pub segment_mask_matrix_unique : DeterminesAll (λ κs e. e.1.0.now ∷ e.1.1.0.now ∷ []) segment-mask-matrix.Learnt
segment_mask_matrix_unique κs a x y e f p q =
    (masks.said_one x y (p.says ∙ sym q.says), and (p.low_high ∙ sym q.low_high) (and (p.leaves ∙ sym q.leaves) refl))

-- .. and the distinct ones

pub distinct_masks_unique : DeterminesAll (λ κs e. e.1.0.now ∷ e.1.1.0.now ∷ e.1.1.1.0.now ∷ []) distinct-masks.Learnt
distinct_masks_unique κs a x y e f p q = (
  masks.said_one x y (p.says ∙ sym q.says),
  and (p.low_high ∙ sym q.low_high) (and (p.each ∙ sym q.each) (and (p.leaves ∙ sym q.leaves) refl)),
)

-- pools: a refusal; and what is left, where the pool is the first that is lent

pub pool_refuse_unique : Determines refuse.Learnt
pool_refuse_unique κs a x y e f p q = pools.said_one x y (p ∙ sym q)

pub intern_ascii_unique : DeterminesBoth (λ κs e. e.0) intern-ascii.Learnt
intern_ascii_unique κs a x y e f p q = (pools.said_one x y (p.says ∙ sym q.says), p.leaves ∙ sym q.leaves)

pub intern_wide_unique : DeterminesBoth (λ κs e. e.0) intern-wide.Learnt
intern_wide_unique κs a x y e f p q = (pools.said_one x y (p.says ∙ sym q.says), p.leaves ∙ sym q.leaves)
