-- Each list of modes in the C face determines its answer and what it leaves in the lent buffer, since its contract is an equation for each. Assumes nothing.
use mathlib.Core.Path.{sym, ◌∙◌}
use Rattle.c_mode_lists.proofs.lexer_dfa_compiled_mode_flags.Reads as compiled-mode-flags
use Rattle.c_mode_lists.proofs.lexer_dfa_mode_state_counts.Reads as mode-state-counts
use Rattle.law_unique.specs.Unique.{DeterminesBoth}

pub c_compiled_mode_flags_unique : DeterminesBoth (λ κs e. e.1.0) compiled-mode-flags.Learnt
c_compiled_mode_flags_unique κs a x y e f p q = (p.0 ∙ sym q.0, p.1 ∙ sym q.1)

pub c_mode_state_counts_unique : DeterminesBoth (λ κs e. e.1.0) mode-state-counts.Learnt
c_mode_state_counts_unique κs a x y e f p q = (p.0 ∙ sym q.0, p.1 ∙ sym q.1)
