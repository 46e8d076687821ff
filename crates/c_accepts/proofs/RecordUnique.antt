-- Each call of the C face about an accept determines its answer, since its contract is an equation. Assumes nothing.
use mathlib.Core.Path.{sym, ◌∙◌}
use Rattle.c_accepts.proofs.lexer_dfa_accept_record.Reads as accept_record
use Rattle.c_accepts.proofs.lexer_dfa_accept_actions.Reads as accept_actions
use Rattle.law_unique.specs.Unique.{Determines}

pub c_accept_record_unique : Determines accept_record.Learnt
c_accept_record_unique κs a x y e f p q = p ∙ sym q

pub c_accept_actions_unique : Determines accept_actions.Learnt
c_accept_actions_unique κs a x y e f p q = p ∙ sym q
