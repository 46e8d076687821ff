-- The record of an accept (document 01, "Words of a table", 7): its rule, its flag and its actions. w is the room, i the record's number.
-- Assumes nothing.
use Rattle.std.specs.Prelude.{ℕ, ◌+◌, ◌*◌, not, List, [], ◌∷◌, ltb, eqb, get_or, Result, Ok, Err}
use Rattle.refusal.specs.Said.{Said, ok, no, NOT-TABLE}
use Rattle.refusal.specs.Lists.{pick}
use Rattle.room_find.specs.declared.Missing.{Missing}
use Rattle.room_find.specs.declared.Missing.TheVariants.{Absent, Outside}
use Rattle.room_find.specs.declared.Span.{Span}
use Rattle.refusal.specs.Header.{ACCEPTS-START}
use Rattle.room_find.specs.Room.{end_of, listed_at, follow}
use Rattle.look_accepts.specs.declared.AcceptRecord.{AcceptRecord}

-- a record's rule, its flag and how many actions it has; that there is no such record; or a refusal
abbrev pub said : Result AcceptRecord Missing → Said
said (Ok a) = ok (a.rule ∷ pick a.consumed_eof 1 0 ∷ a.actions ∷ [])
said (Err Absent) = ok []
said (Err Outside) = no NOT-TABLE 0

-- "rule, consumed-EOF flag, action count, actions of three words": the record of n actions at p lies in its section, whole
abbrev pub whole_with : ℕ → ℕ → ℕ → Result ℕ Missing
whole_with e p n = pick (ltb (n * 3 + (p + 2)) e) (Ok p) (Err Outside)

unfoldable pub whole_to : List ℕ → ℕ → ℕ → Result ℕ Missing
whole_to w e p = pick (ltb (p + 2) e) (whole_with e p (get_or w (p + 2) 0)) (Err Outside)

unfoldable pub record_at : List ℕ → ℕ → Result ℕ Missing
record_at w i = follow (listed_at w ACCEPTS-START i) (whole_to w (end_of w ACCEPTS-START)) (Err Absent) (Err Outside)

-- "A flag is any word; nonzero means set."
abbrev pub record_of : List ℕ → ℕ → Said
record_of w i = follow (record_at w i) (λ p. ok (get_or w p 0 ∷ pick (not (eqb (get_or w (p + 1) 0) 0)) 1 0 ∷ get_or w (p + 2) 0 ∷ [])) (ok []) (no NOT-TABLE 0)

-- where its actions stand, and how many numbers they are; of no record, and on a refusal, an empty part
abbrev pub actions_from : List ℕ → ℕ → ℕ
actions_from w i = follow (record_at w i) (λ p. p + 3) 0 0

abbrev pub actions_length : List ℕ → ℕ → ℕ
actions_length w i = follow (record_at w i) (λ p. get_or w (p + 2) 0 * 3) 0 0

abbrev pub actions_span : List ℕ → ℕ → Span
actions_span w i = record { from = actions_from w i; length = actions_length w i }
