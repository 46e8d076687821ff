-- What a lookup answers in C: a number of 0 and the value, or the refusal's number. Assumes nothing.
use Rattle.std.specs.Prelude.{ℕ, get_or}
use Rattle.refusal.specs.Said.{Said, ok, no_by}
use Rattle.refusal.specs.Fixed.{NONE}
use Rattle.c_value.specs.declared.CValue.{CValue}

-- a value; a refusal, whose place is always 0 and left out
abbrev pub answer : ℕ → CValue
answer v = record { value = v; number = 0 }

abbrev pub refusal : ℕ → CValue
refusal n = record { value = 0; number = n }

-- what a lookup says, with NONE where it says no value
abbrev pub value_in_c : Said → CValue
value_in_c (ok l) = answer (get_or l 0 NONE)
value_in_c (no_by r) = refusal r.number
