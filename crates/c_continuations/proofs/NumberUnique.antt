-- Each number of a continuation in the C face is determined, since its contract is an equation. Assumes nothing.
use mathlib.Core.Path.{sym, ◌∙◌}
use Rattle.c_continuations.proofs.lexer_dfa_char_continuation.Reads as char_continuation_lem
use Rattle.c_continuations.proofs.lexer_dfa_eof_continuation.Reads as eof_continuation_lem
use Rattle.law_unique.specs.Unique.{Determines}

pub c_char_continuation_unique : Determines char_continuation_lem.Learnt
c_char_continuation_unique κs a x y e f p q = p ∙ sym q

pub c_eof_continuation_unique : Determines eof_continuation_lem.Learnt
c_eof_continuation_unique κs a x y e f p q = p ∙ sym q
