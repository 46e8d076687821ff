-- Each call of pools in the C face determines its answer, and what it leaves in the pool, since its contract is an equation for each. Assumes nothing.
use mathlib.Core.Path.{sym, ◌∙◌}
use Rattle.c_pools.proofs.lexer_dfa_intern_ascii.Reads as intern-ascii
use Rattle.c_pools.proofs.lexer_dfa_intern_wide.Reads as intern-wide
use Rattle.law_unique.specs.Unique.{DeterminesBoth}

pub c_intern_ascii_unique : DeterminesBoth (λ κs e. e.0) intern-ascii.Learnt
c_intern_ascii_unique κs a x y e f p q = (p.0 ∙ sym q.0, p.1 ∙ sym q.1)

pub c_intern_wide_unique : DeterminesBoth (λ κs e. e.0) intern-wide.Learnt
c_intern_wide_unique κs a x y e f p q = (p.0 ∙ sym q.0, p.1 ∙ sym q.1)
