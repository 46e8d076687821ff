-- Each call of the C face for masks determines its answer, and what it leaves in every lent buffer, since its contract is an equation for each.
-- Assumes nothing.
use mathlib.Core.Path.{sym, ◌∙◌}
use Rattle.c_masks.proofs.lexer_dfa_segment_mask_matrix.Reads as segment-mask-matrix
use Rattle.c_masks.proofs.lexer_dfa_distinct_masks.Reads as distinct-masks
use Rattle.law_unique.specs.Unique.{DeterminesBoth}

-- a call that writes more than one buffer: what is left in each of them
pub c_segment_mask_matrix_unique : DeterminesBoth (λ κs e. e.1.0) segment-mask-matrix.Learnt × DeterminesBoth (λ κs e. e.1.1.0) segment-mask-matrix.Learnt
c_segment_mask_matrix_unique = (
  (λ κs a x y e f p q. (p.says ∙ sym q.says, p.low_high ∙ sym q.low_high)),
  (λ κs a x y e f p q. (p.says ∙ sym q.says, p.leaves ∙ sym q.leaves)),
)

pub c_distinct_masks_unique : DeterminesBoth (λ κs e. e.1.0) distinct-masks.Learnt
    × DeterminesBoth (λ κs e. e.1.1.0) distinct-masks.Learnt
    × DeterminesBoth (λ κs e. e.1.1.1.0) distinct-masks.Learnt
c_distinct_masks_unique = (
  (λ κs a x y e f p q. (p.says ∙ sym q.says, p.low_high ∙ sym q.low_high)),
  (λ κs a x y e f p q. (p.says ∙ sym q.says, p.each ∙ sym q.each)),
  (λ κs a x y e f p q. (p.says ∙ sym q.says, p.leaves ∙ sym q.leaves)),
)
