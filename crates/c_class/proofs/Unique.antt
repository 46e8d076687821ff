-- Each call of the C face about classes determines its answer, since its contract is an equation for it. Assumes nothing.
use mathlib.Core.Path.{sym, ◌∙◌}
use Rattle.c_class.proofs.lexer_dfa_class_of_byte.Reads as class-of-byte
use Rattle.c_class.proofs.lexer_dfa_class.Reads as class
use Rattle.law_unique.specs.Unique.{Determines}

pub c_class_of_byte_unique : Determines class-of-byte.Learnt
c_class_of_byte_unique κs a x y e f p q = p ∙ sym q

pub c_class_unique : Determines class.Learnt
c_class_unique κs a x y e f p q = p ∙ sym q
