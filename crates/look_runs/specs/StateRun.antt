-- The run of a state, and what a scan by it skips (document 01, "Lookups"). w is the room, s a state, bs the bytes of an input. Assumes nothing.
use Rattle.std.specs.Prelude.{ℕ, Ok, Err, List, take}
use Rattle.refusal.specs.Said.{STATE, NOT-TABLE}
use Rattle.run_shape.specs.Shape.{Got, refused, shape}
use Rattle.run_shape.specs.Words.{read_at}
use Rattle.run_shape.specs.Scan.{skipped}
use Rattle.refusal.specs.Header.{RUNS-START}
use Rattle.room_find.specs.Room.{end_of, state_at, follow}
use Rattle.look_runs.specs.RunPlaces.{run_place}

abbrev pub not_table : Got
not_table = refused NOT-TABLE 0

-- "a number read is one its field forbids": what reading refuses is no table
abbrev pub judged : Got → Got
judged (Ok r) = Ok r
judged (Err r) = not_table

-- a run is read from its section alone, which ends at e
unfoldable pub run_in : List ℕ → ℕ → ℕ → Got
run_in w e p = judged (read_at (take e w) p)

-- a state's run has its number; where there is none, the room is no table
unfoldable pub run_of : List ℕ → ℕ → Got
run_of w i = follow (run_place w i) (run_in w (end_of w RUNS-START)) not_table not_table

unfoldable pub ascii_run : List ℕ → ℕ → Got
ascii_run w s = follow (state_at w s) (λ p. run_of w s) (refused STATE 0) not_table

-- "none answers "no run". Then, and on a refusal, the part handed back is empty."
abbrev pub skipped_by : Got → List ℕ → ℕ
skipped_by (Ok r) bs = skipped (shape r) bs
skipped_by (Err r) bs = 0
