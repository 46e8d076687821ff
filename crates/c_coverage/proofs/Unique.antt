-- Coverage in the C face determines its answer, since its contract is an equation. Assumes nothing.
use mathlib.Core.Path.{sym, ◌∙◌}
use Rattle.c_coverage.proofs.lexer_dfa_coverage.Reads as coverage
use Rattle.law_unique.specs.Unique.{Determines}

pub c_coverage_unique : Determines coverage.Learnt
c_coverage_unique κs a x y e f p q = p ∙ sym q
