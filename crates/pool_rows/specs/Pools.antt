-- Pools of rows (document 01, "Transitions, segments, rows"). w is the pool, n how many rows are stated to stand in it, row the one that is
-- interned. Assumes nothing.
use Rattle.std.specs.Prelude.{ℕ, zero, suc, ◌+◌, ◌*◌, ◌/◌, ◌≡◌, Bool, true, false, ◌&&◌, Option, Some, None, Result, Ok, Err, List, [], ◌∷◌, ltb, leb, eqb, length, get_or, take, drop}
use Rattle.refusal.specs.declared.Refusal.{Refusal}
use Rattle.refusal.specs.Said.{Said, ok, no_by, no, FIELD, ROOM, NOT-TABLE}
use Rattle.refusal.specs.Lists.{pick, first_equal}
use Rattle.refusal.specs.Fixed.{NONE}
use Rattle.buffer.specs.Over.{lay}

-- the two kinds of row
pub data Kind : Type 0 where
  ascii : Kind
  wide : Kind

-- "a wide row stands as its count, then its ranges"; an ascii row as its targets
abbrev pub standing : Kind → List ℕ → List ℕ
standing ascii row = row
standing wide row = (length row / 3) ∷ row

-- how many numbers the row has that stands at a place
abbrev pub size_at : Kind → List ℕ → ℕ → ℕ
size_at ascii w at = 128
size_at wide w at = 1 + get_or w at 0 * 3

-- n rows stand from a place on, each behind the one before it
unfoldable pub rows_from : Kind → List ℕ → ℕ → ℕ → List (List ℕ)
rows_from k w zero at = []
rows_from k w (suc n) at = take (size_at k w at) (drop at w) ∷ rows_from k w n (at + size_at k w at)

-- the place behind them, which is past the end of a pool that they do not fit
unfoldable pub after_rows : Kind → List ℕ → ℕ → ℕ → ℕ
after_rows k w zero at = at
after_rows k w (suc n) at = after_rows k w n (at + size_at k w at)

-- ranges of three numbers, whose third is a target
unfoldable pub in_threes : List ℕ → Bool
in_threes [] = true
in_threes (low ∷ []) = false
in_threes (low ∷ high ∷ []) = false
in_threes (low ∷ high ∷ target ∷ l) = leb target 65535 && in_threes l

-- "FIELD (ascii row not 128 long; wide row not in threes, or a target past 65535)"
abbrev pub good : Kind → List ℕ → Bool
good ascii row = eqb (length row) 128
good wide row = in_threes row

-- a wide row of more ranges than a number of the pool can count equals none that stands there, and there is no room for it
abbrev pub countable : Kind → List ℕ → Bool
countable ascii row = true
countable wide row = leb (length row / 3) NONE

-- the number of an equal row; the number of a row that is appended, its numbers, and the place behind the others where they go; or a refusal
pub data Outcome : Type 0 where
  found : ℕ → Outcome
  appended : ℕ → List ℕ → ℕ → Outcome
  refused : ℕ → Outcome

unfoldable pub append : Kind → List ℕ → ℕ → List ℕ → Outcome
append k w n row = pick (ltb (length w) (after_rows k w n 0 + length (standing k row))) (refused ROOM) (appended n (standing k row) (after_rows k w n 0))

-- the number of the first of the rows in the pool that is equal
abbrev pub first_in : Kind → List ℕ → ℕ → List ℕ → ℕ
first_in k w n row = first_equal (standing k row) (rows_from k w n 0)

-- .. if one is
abbrev pub equal_in : Kind → List ℕ → ℕ → List ℕ → Option ℕ
equal_in k w n row = pick (ltb (first_in k w n row) n) (Some (first_in k w n row)) None

unfoldable pub find_or_append : Kind → List ℕ → ℕ → List ℕ → Outcome
find_or_append k w n row = pick (ltb (first_in k w n row) n) (found (first_in k w n row)) (append k w n row)

-- "answer the place of the first equal row, else append. Order: NOT-TABLE (the stated rows don't fit the lent pool), FIELD (ascii row not 128 long; wide
-- row not in threes, or a target past 65535), ROOM."
unfoldable pub intern : Kind → List ℕ → ℕ → List ℕ → Outcome
intern k w n row =
    pick (ltb (length w) (after_rows k w n 0)) (refused NOT-TABLE)
    (pick (good k row) (pick (countable k row) (find_or_append k w n row) (refused ROOM)) (refused FIELD))

-- what the call answers: a row's number, or a refusal
abbrev pub said : Result ℕ Refusal → Said
said (Ok i) = ok (i ∷ [])
said (Err r) = no_by r

abbrev pub outcome_said : Outcome → Said
outcome_said (found i) = ok (i ∷ [])
outcome_said (appended i row at) = ok (i ∷ [])
outcome_said (refused k) = no k 0

-- "Only an appended row's numbers change"; "A pool is no output", so a refused one stays as it stood
abbrev pub left_in : List ℕ → Outcome → List ℕ
left_in w (found i) = w
left_in w (appended i row at) = lay at row w
left_in w (refused k) = w

-- the answer says it, and the pool w holds `new` afterwards
pub record Interns (r : Result ℕ Refusal) (w new : List ℕ) (g : Outcome) : Type 0 where
  pub says : said r ≡ outcome_said g
  pub leaves : new ≡ left_in w g
