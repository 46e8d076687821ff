-- The answer about a list of transitions in C: a number of 0 and the counts, or the refusal's number and place. Assumes nothing.
use Rattle.std.specs.Prelude.{get_or}
use Rattle.refusal.specs.Said.{Said, ok, no_by}
use Rattle.c_transitions.specs.declared.CTransitions.{CTransitions}

-- how many transitions and intervals
abbrev pub transitions_in_c : Said → CTransitions
transitions_in_c (ok l) = record { number = 0; item = 0; place = 0; transitions = get_or l 0 0; intervals = get_or l 1 0 }
transitions_in_c (no_by r) = record { number = r.number; item = r.item; place = r.place; transitions = 0; intervals = 0 }
