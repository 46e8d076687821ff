-- What a state accepts (document 01, "Lookups"). w is the room, s a state. Assumes nothing.
use Rattle.std.specs.Prelude.{ℕ, ◌+◌, List, [], ◌∷◌, get_or}
use Rattle.refusal.specs.Said.{Said, ok}
use Rattle.room_find.specs.Room.{of_state}

-- "`accept` and the continuation lookups answer a record's number or NONE"; "a number only answered isn't followed"
abbrev pub accept_of : List ℕ → ℕ → Said
accept_of w s = of_state w s (λ p. ok (get_or w (p + 3) 0 ∷ []))
