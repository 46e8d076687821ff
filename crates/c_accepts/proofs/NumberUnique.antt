-- A state's accept in the C face is determined, since the contract is an equation. Assumes nothing.
use mathlib.Core.Path.{sym, ◌∙◌}
use Rattle.c_accepts.proofs.lexer_dfa_accept.Reads as accept
use Rattle.law_unique.specs.Unique.{Determines}

pub c_accept_unique : Determines accept.Learnt
c_accept_unique κs a x y e f p q = p ∙ sym q
