-- Each call of the C face about a list of transitions determines its answer, and what it leaves in a lent buffer, since its contract is an equation for each.
-- Assumes nothing.
use mathlib.Core.Path.{sym, ◌∙◌}
use Rattle.c_transitions.proofs.lexer_dfa_read_transitions.Reads as read-transitions
use Rattle.c_transitions.proofs.lexer_dfa_read_intervals.Reads as read-intervals
use Rattle.law_unique.specs.Unique.{Determines, DeterminesBoth}

pub c_read_transitions_unique : Determines read-transitions.Learnt
c_read_transitions_unique κs a x y e f p q = p ∙ sym q

pub c_read_intervals_unique : DeterminesBoth (λ κs e. e.1.0) read-intervals.Learnt
c_read_intervals_unique κs a x y e f p q = (p.0 ∙ sym q.0, p.1 ∙ sym q.1)
