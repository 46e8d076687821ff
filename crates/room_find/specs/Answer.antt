-- What a lookup tells of a state (document 01, "Refusals by number", 8 and 9). Assumes nothing.
use Rattle.std.specs.Prelude.{ℕ, [], ◌∷◌, Result, Ok, Err}
use Rattle.refusal.specs.Said.{Said, ok, no, STATE, NOT-TABLE}
use Rattle.room_find.specs.declared.Missing.{Missing}
use Rattle.room_find.specs.declared.Missing.TheVariants.{Absent, Outside}

-- "no such state", or "a number followed leads outside the room"
abbrev pub refused : Missing → Said
refused Absent = no STATE 0
refused Outside = no NOT-TABLE 0

-- a number, or a refusal
abbrev pub said : Result ℕ Missing → Said
said (Ok n) = ok (n ∷ [])
said (Err m) = refused m
