-- The answer about ranges in C: a number of 0 and the class, or the refusal's number and place. Assumes nothing.
use Rattle.std.specs.Prelude.{get_or}
use Rattle.refusal.specs.Said.{Said, ok, no_by}
use Rattle.c_class.specs.declared.CClass.{CClass}

-- a class by its number
abbrev pub class_in_c : Said → CClass
class_in_c (ok l) = record { number = 0; item = 0; place = 0; class = get_or l 0 0 }
class_in_c (no_by r) = record { number = r.number; item = r.item; place = r.place; class = 0 }
