-- What a call that writes into a lent buffer answers in C: a number of 0 and how many numbers were written, or the refusal's number and place. Assumes nothing.
use Rattle.std.specs.Prelude.{get_or}
use Rattle.refusal.specs.Said.{Said, ok, no_by}
use Rattle.c_value.specs.declared.CWritten.{CWritten}

-- how many numbers were written
abbrev pub written_in_c : Said → CWritten
written_in_c (ok l) = record { number = 0; item = 0; place = 0; length = get_or l 0 0 }
written_in_c (no_by r) = record { number = r.number; item = r.item; place = r.place; length = 0 }
