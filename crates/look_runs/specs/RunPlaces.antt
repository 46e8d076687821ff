-- The place of a run (document 01, "Lookups"). w is the room, i the run's number. Assumes nothing.
use Rattle.std.specs.Prelude.{ℕ, List, Result}
use Rattle.room_find.specs.declared.Missing.{Missing}
use Rattle.refusal.specs.Header.{RUNS-START}
use Rattle.room_find.specs.Room.{listed_at}

abbrev pub run_place : List ℕ → ℕ → Result ℕ Missing
run_place w i = listed_at w RUNS-START i
