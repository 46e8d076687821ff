-- What is told of a state, and of what was written, is told in C in one way, since each contract is an equation. Assumes nothing.
use mathlib.Core.Path.{sym, ◌∙◌}
use Rattle.c_value.proofs.value_in_c.Reads as value_in_c_lem
use Rattle.c_value.proofs.written_in_c.Reads as written-in-c
use Rattle.law_unique.specs.Unique.{Determines}

pub c_value_unique : Determines value_in_c_lem.Learnt
c_value_unique κs a x y e f p q = p ∙ sym q

pub c_written_unique : Determines written-in-c.Learnt
c_written_unique κs a x y e f p q = p ∙ sym q
