-- The continuation of an escaped edge (document 01, "Lookups"). w is the room, s a state, x a symbol. Assumes nothing.
use Rattle.std.specs.Prelude.{ℕ, ◌+◌, List, [], ◌∷◌, get_or}
use Rattle.refusal.specs.Said.{Said, ok, no, NOT-TABLE}
use Rattle.refusal.specs.Fixed.{NONE}
use Rattle.refusal.specs.Header.{ESCAPES-START}
use Rattle.room_find.specs.Room.{end_of, listed_at, follow, of_state}
use Rattle.look_row.specs.Search.{searched, given}

-- a state's escape row has its number; where there is none, the room is no table
abbrev pub in_row : List ℕ → ℕ → (ℕ → Said) → Said
in_row w row f = follow (listed_at w ESCAPES-START row) f (no NOT-TABLE 0) (no NOT-TABLE 0)

-- "escape rows: EOF continuation or NONE, length, then low, high, continuation": the continuation of the range that a search gives, else "no continuation"
unfoldable pub search_row : List ℕ → ℕ → ℕ → ℕ → Said
search_row w at e x = given (searched w at e x) (λ c. ok (c ∷ [])) (ok (NONE ∷ [])) (no NOT-TABLE 0)

abbrev pub char_in_row : List ℕ → ℕ → ℕ → Said
char_in_row w row x = in_row w row (λ p. search_row w (p + 1) (end_of w ESCAPES-START) x)

-- "the continuation lookups answer a record's number or NONE"; "Escape rows serve ASCII too": every symbol is searched for, read as unsigned
abbrev pub char_continuation : List ℕ → ℕ → ℕ → Said
char_continuation w s x = of_state w s (λ p. char_in_row w s x)

abbrev pub eof_in_row : List ℕ → ℕ → Said
eof_in_row w row = in_row w row (λ p. ok (get_or w p 0 ∷ []))

abbrev pub eof_continuation : List ℕ → ℕ → Said
eof_continuation w s = of_state w s (λ p. eof_in_row w s)
