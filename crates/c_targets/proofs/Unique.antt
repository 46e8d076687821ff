-- Each target in the C face is determined, since its contract is an equation. Assumes nothing.
use mathlib.Core.Path.{sym, ◌∙◌}
use Rattle.c_targets.proofs.lexer_dfa_ascii_target.Reads as ascii_target_lem
use Rattle.c_targets.proofs.lexer_dfa_char_target.Reads as char_target_lem
use Rattle.c_targets.proofs.lexer_dfa_eof_target.Reads as eof_target_lem
use Rattle.law_unique.specs.Unique.{Determines}

pub c_ascii_target_unique : Determines ascii_target_lem.Learnt
c_ascii_target_unique κs a x y e f p q = p ∙ sym q

pub c_char_target_unique : Determines char_target_lem.Learnt
c_char_target_unique κs a x y e f p q = p ∙ sym q

pub c_eof_target_unique : Determines eof_target_lem.Learnt
c_eof_target_unique κs a x y e f p q = p ∙ sym q
