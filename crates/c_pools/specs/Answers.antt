-- The answers of pools in C: a number of 0 and the row's number, or the refusal's number. Assumes nothing.
use Rattle.std.specs.Prelude.{get_or}
use Rattle.refusal.specs.Said.{Said, ok, no_by}
use Rattle.c_pools.specs.declared.CInterned.{CInterned}

-- a row's number; a refusal, whose place is always 0 and left out
abbrev pub interned_in_c : Said → CInterned
interned_in_c (ok l) = record { row = get_or l 0 0; number = 0 }
interned_in_c (no_by r) = record { row = 0; number = r.number }
