-- The building of rows in the C face determines its answer, and what it leaves in each of the six lent buffers, since its contract is an equation for
-- each. Assumes nothing.
use mathlib.Core.Path.{sym, ◌∙◌}
use Rattle.c_rows.proofs.lexer_dfa_build_rows.Reads as build-rows
use Rattle.law_unique.specs.Unique.{DeterminesBoth}

pub c_build_rows_unique :
    DeterminesBoth (λ κs e. e.1.1.1.0) build-rows.Learnt × DeterminesBoth (λ κs e. e.1.1.1.1.0) build-rows.Learnt
    × DeterminesBoth (λ κs e. e.1.1.1.1.1.0) build-rows.Learnt × DeterminesBoth (λ κs e. e.1.1.1.1.1.1.0) build-rows.Learnt
    × DeterminesBoth (λ κs e. e.1.1.1.1.1.1.1.0) build-rows.Learnt × DeterminesBoth (λ κs e. e.1.1.1.1.1.1.1.1.0) build-rows.Learnt
c_build_rows_unique = (
  (λ κs a x y e f p q. (p.says ∙ sym q.says, p.low_high ∙ sym q.low_high)),
  (λ κs a x y e f p q. (p.says ∙ sym q.says, p.each ∙ sym q.each)),
  (λ κs a x y e f p q. (p.says ∙ sym q.says, p.once ∙ sym q.once)),
  (λ κs a x y e f p q. (p.says ∙ sym q.says, p.narrow ∙ sym q.narrow)),
  (λ κs a x y e f p q. (p.says ∙ sym q.says, p.broad ∙ sym q.broad)),
  (λ κs a x y e f p q. (p.says ∙ sym q.says, p.escapes ∙ sym q.escapes)),
)
