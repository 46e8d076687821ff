-- Where a state goes on a symbol, and at the end of the input (document 01, "Lookups"). w is the room, s a state, x a symbol. Assumes nothing.
use Rattle.std.specs.Prelude.{ℕ, ◌+◌, ◌/◌, ◌%◌, List, [], ◌∷◌, ltb, leb, eqb, get_or, Result}
use Rattle.refusal.specs.Fixed.{DEAD-STATE}
use Rattle.refusal.specs.Said.{Said, ok, no, STATE, NOT-TABLE}
use Rattle.refusal.specs.Lists.{pick}
use Rattle.room_find.specs.declared.Missing.{Missing}
use Rattle.refusal.specs.Header.{ASCII-START, WIDE-START}
use Rattle.room_find.specs.Room.{record_at, end_of, listed_at, follow, of_state}
use Rattle.look_row.specs.Search.{searched, given}

-- a target is "at most 65535"; it is only answered, so that it need not be a state
abbrev pub target : ℕ → Said
target t = pick (leb t 65535) (ok (t ∷ [])) (no NOT-TABLE 0)

-- the target at the end of the input
abbrev pub eof_target : List ℕ → ℕ → Said
eof_target w s = of_state w s (λ p. target (get_or w (p + 2) 0))

-- "ascii rows: 64 words, even symbol in the low half"
abbrev pub half : ℕ → ℕ → ℕ
half word x = pick (eqb (x % 2) 0) (word % 65536) (word / 65536)

unfoldable pub ascii_row_at : List ℕ → ℕ → Result ℕ Missing
ascii_row_at w row = record_at w ASCII-START 64 row

-- the row is found before "symbol past 127 for `ascii_target`" is STATE
unfoldable pub row_target : List ℕ → ℕ → ℕ → Said
row_target w row x =
    follow (ascii_row_at w row) (λ p. pick (ltb x 128) (ok (half (get_or w (p + x / 2) 0) x ∷ [])) (no STATE 0)) (no NOT-TABLE 0) (no NOT-TABLE 0)

abbrev pub ascii_target : List ℕ → ℕ → ℕ → Said
ascii_target w s x = of_state w s (λ p. row_target w (get_or w p 0) x)

abbrev pub wide_row_at : List ℕ → ℕ → Result ℕ Missing
wide_row_at w row = listed_at w WIDE-START row

-- the target of the range that a search gives, "else dead"
abbrev pub search_target : List ℕ → ℕ → ℕ → ℕ → Said
search_target w p e x = given (searched w p e x) target (ok (DEAD-STATE ∷ [])) (no NOT-TABLE 0)

abbrev pub wide_target : List ℕ → ℕ → ℕ → Said
wide_target w row x = follow (wide_row_at w row) (λ p. search_target w p (end_of w WIDE-START) x) (no NOT-TABLE 0) (no NOT-TABLE 0)

-- the target on a symbol that no ascii row has
abbrev pub wide_of : List ℕ → ℕ → ℕ → Said
wide_of w s x = of_state w s (λ p. wide_target w (get_or w (p + 1) 0) x)

-- "0 to 127 use the ascii row; otherwise the symbol is read as unsigned"
abbrev pub char_target : List ℕ → ℕ → ℕ → Said
char_target w s x = of_state w s (λ p. pick (ltb x 128) (row_target w (get_or w p 0) x) (wide_target w (get_or w (p + 1) 0) x))
