-- What a lookup follows in a room, which may be of any length and hold any numbers (document 01, "Refusals by number", 8 and 9).
-- Below, w is the room, and s and e are where a section starts and ends. Assumes nothing.
use Rattle.std.specs.Prelude.{ℕ, zero, suc, ◌+◌, ◌*◌, ◌-◌, List, [], ◌∷◌, length, get_or, ltb, leb, eqb, Result, Ok, Err}
use Rattle.refusal.specs.Said.{Said, ok, no, STATE, NOT-TABLE}
use Rattle.refusal.specs.Lists.{pick}
use Rattle.room_find.specs.declared.Missing.{Missing}
use Rattle.room_find.specs.declared.Missing.TheVariants.{Absent, Outside}
use Rattle.refusal.specs.Header.{WORD-COUNT, STATES-START, RUNS-START, ASCII-START, CONTINUATIONS-START, HEADER-NUMBERS}

-- a record's place; that there is no such record; or a refusal
abbrev pub said : Result ℕ Missing → Said
said (Ok p) = ok (p ∷ [])
said (Err Absent) = ok []
said (Err Outside) = no NOT-TABLE 0

-- the section lies in the room, or "a number followed leads outside the room"
abbrev pub spanned : {A : Type 0} → List ℕ → ℕ → ℕ → A → A → A
spanned w s e inside outside = pick (ltb s e) (pick (leb e (length w)) inside outside) outside

-- record i of n, of `size` numbers each, behind the count at s: absent, or outside its section
abbrev pub placed : ℕ → ℕ → ℕ → ℕ → ℕ → Result ℕ Missing
placed s e n size i = pick (ltb i n) (pick (ltb (i * size + s + size) e) (Ok (i * size + s + 1)) (Err Outside)) (Err Absent)

unfoldable pub record_in : List ℕ → ℕ → ℕ → ℕ → ℕ → Result ℕ Missing
record_in w s e size i = spanned w s e (placed s e (get_or w s 0) size i) (Err Outside)

-- a place that lies in the section, behind its count
abbrev pub within : ℕ → ℕ → ℕ → Result ℕ Missing
within s e p = pick (ltb s p) (pick (ltb p e) (Ok p) (Err Outside)) (Err Outside)

-- the place that is number i of the list at `list`, if it lies in the section
abbrev pub numbered : List ℕ → ℕ → ℕ → ℕ → ℕ → Result ℕ Missing
numbered w s e list i = pick (ltb (list + i) (length w)) (within s e (get_or w (list + i) 0)) (Err Outside)

-- record i of a section whose records vary in length, by its place in that list
unfoldable pub listed_in : List ℕ → ℕ → ℕ → ℕ → ℕ → Result ℕ Missing
listed_in w s e i list = spanned w s e (pick (ltb i (get_or w s 0)) (numbered w s e list i) (Err Absent)) (Err Outside)

-- the header is there
abbrev pub headed : {A : Type 0} → List ℕ → A → A → A
headed w inside outside = pick (ltb CONTINUATIONS-START (length w)) inside outside

-- section k starts where number k of the room says, and ends where the next number says
abbrev pub record_at : List ℕ → ℕ → ℕ → ℕ → Result ℕ Missing
record_at w k size i = headed w (record_in w (get_or w k 0) (get_or w (k + 1) 0) size i) (Err Outside)

-- the last section ends with the words
abbrev pub words_end : List ℕ → ℕ
words_end w = HEADER-NUMBERS + get_or w WORD-COUNT 0

abbrev pub end_of : List ℕ → ℕ → ℕ
end_of w k = pick (eqb k CONTINUATIONS-START) (words_end w) (get_or w (k + 1) 0)

-- behind the words stand the lists of places, one behind the other: those of the runs, then of the sections behind the ascii rows
abbrev pub section_of : ℕ → ℕ
section_of j = pick (eqb j 0) RUNS-START (ASCII-START + j)

-- go on behind n lists, of which the first is list j: each has as many places as its section has records, whose count lies in the room
unfoldable pub past_lists : List ℕ → ℕ → ℕ → ℕ → (ℕ → Result ℕ Missing) → Result ℕ Missing
past_lists w zero j list f = f list
past_lists w (suc n) j list f = pick (ltb (get_or w (section_of j) 0) (length w)) (past_lists w n (j + 1) (list + get_or w (get_or w (section_of j) 0) 0) f) (Err Outside)

-- record i of section k, whose records vary in length
unfoldable pub listed_at : List ℕ → ℕ → ℕ → Result ℕ Missing
listed_at w k i =
    headed w (pick (leb k CONTINUATIONS-START) (past_lists w (k - ASCII-START) 0 (words_end w) (listed_in w (get_or w k 0) (end_of w k) i)) (Err Outside)) (Err Outside)

-- "states: ascii row, wide row, EOF target (at most 65535), accept index or NONE"
unfoldable pub state_at : List ℕ → ℕ → Result ℕ Missing
state_at w i = record_at w STATES-START 4 i

-- go on at the place of a record
unfoldable pub follow : {A : Type 0} → Result ℕ Missing → (ℕ → A) → A → A → A
follow (Ok p) f absent outside = f p
follow (Err Absent) f absent outside = absent
follow (Err Outside) f absent outside = outside

-- go on at the place of a state: "no such state" is STATE; NOT-TABLE is "checked before STATE"
abbrev pub of_state : List ℕ → ℕ → (ℕ → Said) → Said
of_state w i f = follow (state_at w i) f (no STATE 0) (no NOT-TABLE 0)
