-- Where a mode starts (document 01, "Lookups"). w is the room, s and e are where the section of the modes starts and ends. Assumes nothing.
use Rattle.std.specs.Prelude.{ℕ, Bool, List, [], ◌∷◌, ltb, leb, eqb, get_or, Option, Some, None, Result, Ok, Err}
use Rattle.refusal.specs.Said.{Said, ok, no, NOT-TABLE}
use Rattle.refusal.specs.Fixed.{NONE}
use Rattle.refusal.specs.Lists.{pick}
use Rattle.room_find.specs.declared.Missing.{Missing}
use Rattle.room_find.specs.declared.Missing.TheVariants.{Absent, Outside}
use Rattle.room_find.specs.Answer.{refused}
use Rattle.refusal.specs.Header.{MODES-START, STATES-START}
use Rattle.room_find.specs.Room.{spanned, headed, record_in, follow}

-- a start; "no start"; or a refusal
abbrev pub said : Result (Option ℕ) Missing → Said
said (Ok (Some s)) = ok (s ∷ [])
said (Ok None) = ok []
said (Err m) = refused m

-- a mode is compiled where it has a start state, at most 65535
abbrev pub compiled : ℕ → Bool
compiled x = leb x 65535

-- "NONE, answers "no start""; "a value from 65536 to NONE-1 is a bad field"
abbrev pub started : ℕ → Said
started x = pick (compiled x) (ok (x ∷ [])) (pick (eqb x NONE) (ok []) (no NOT-TABLE 0))

-- "a negative or absent mode": the section is judged first
abbrev pub mode_in : List ℕ → ℕ → ℕ → ℕ → Result ℕ Missing
mode_in w s e m = spanned w s e (pick (ltb m 2147483648) (record_in w s e 1 m) (Err Absent)) (Err Outside)

unfoldable pub mode_at : List ℕ → ℕ → Result ℕ Missing
mode_at w m = headed w (mode_in w (get_or w MODES-START 0) (get_or w STATES-START 0) m) (Err Outside)

abbrev pub mode_start : List ℕ → ℕ → Said
mode_start w m = follow (mode_at w m) (λ p. started (get_or w p 0)) (ok []) (no NOT-TABLE 0)
