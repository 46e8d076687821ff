-- Each lookup of modes in the C face determines its answer, since its contract is an equation. Assumes nothing.
use mathlib.Core.Path.{sym, ◌∙◌}
use Rattle.c_modes.proofs.lexer_dfa_has_compiled_modes.Reads as has_compiled_modes_lem
use Rattle.c_modes.proofs.lexer_dfa_state_count.Reads as state_count_lem
use Rattle.c_modes.proofs.lexer_dfa_mode_start.Reads as mode_start_lem
use Rattle.law_unique.specs.Unique.{Determines}

pub c_has_compiled_modes_unique : Determines has_compiled_modes_lem.Learnt
c_has_compiled_modes_unique κs a x y e f p q = p ∙ sym q

pub c_state_count_unique : Determines state_count_lem.Learnt
c_state_count_unique κs a x y e f p q = p ∙ sym q

pub c_mode_start_unique : Determines mode_start_lem.Learnt
c_mode_start_unique κs a x y e f p q = p ∙ sym q
