-- The rows of a state on a page: items of a range and where it leads, three to a line. w is the room, s a state. Assumes nothing.
use Rattle.std.specs.Prelude.{ℕ, zero, suc, ◌+◌, List, [], ◌∷◌, ◌++◌, ltb, eqb, get_or}
use Rattle.refusal.specs.Fixed.{DEAD-STATE}
use Rattle.refusal.specs.Said.{Said, ok, no_by}
use Rattle.refusal.specs.Lists.{pick}
use Rattle.refusal.specs.Header.{WIDE-START, ESCAPES-START}
use Rattle.room_find.specs.Room.{listed_at, state_at, follow}
use Rattle.look_targets.specs.Targets.{ascii_target}
use Rattle.tableshow.specs.declared.rows.Kind.{Kind}
use Rattle.tableshow.specs.declared.rows.Kind.TheVariants.{Target, Continuation}
use Rattle.tableshow.specs.Joined.{joined, if_same}
use Rattle.program_io.specs.Decimal.{number}
use Rattle.tableshow.specs.Names.{range, target}
use Rattle.tableshow.specs.Texts.{between, next_line, no_items, end_line, ascii_label, wide_label, wide_as, escapes_label}

-- p says how many items stand on the line: 0 before the first of all, and 1 to 3
abbrev pub gap : ℕ → List ℕ
gap p = if_same p 3 next_line between

unfoldable pub after : ℕ → ℕ
after p = pick (ltb p 3) (p + 1) 1

abbrev pub ending : ℕ → List ℕ
ending p = if_same p 0 no_items end_line

abbrev pub item : ℕ → ℕ → ℕ → Kind → ℕ → List ℕ
item p low high kind t = joined (joined (gap p ∷ range low high ∷ []) ∷ target kind t ∷ [])

-- The ascii row

-- the number that a lookup answers, or another where it answers none
abbrev pub or_else : ℕ → Said → ℕ
or_else d (ok []) = d
or_else d (ok (x ∷ xs)) = x
or_else d (no_by r) = d

-- the target on a symbol; there is none past 127
unfoldable pub target_on : List ℕ → ℕ → ℕ → ℕ
target_on w s x = pick (ltb x 128) (or_else DEAD-STATE (ascii_target w s x)) DEAD-STATE

-- the range from `low` to x ends where the target t is not that of the next symbol, and is left out where t is dead
unfoldable pub edge : ℕ → ℕ → ℕ → ℕ → ℕ → List ℕ
edge t next low x p = if_same t next [] (if_same t DEAD-STATE [] (item p low x Target t))

-- where the next range starts, and the items on the line
unfoldable pub low_after : ℕ → ℕ → ℕ → ℕ → ℕ
low_after t next low y = pick (eqb t next) low y

unfoldable pub items_after : ℕ → ℕ → ℕ → ℕ
items_after t next p = pick (eqb t next) p (pick (eqb t DEAD-STATE) p (after p))

-- the same at a symbol of the row
unfoldable pub edge_at : List ℕ → ℕ → ℕ → ℕ → ℕ → List ℕ
edge_at w s low x p = edge (target_on w s x) (target_on w s (x + 1)) low x p

unfoldable pub low_at : List ℕ → ℕ → ℕ → ℕ → ℕ
low_at w s low x = low_after (target_on w s x) (target_on w s (x + 1)) low (x + 1)

unfoldable pub items_at : List ℕ → ℕ → ℕ → ℕ → ℕ
items_at w s x p = items_after (target_on w s x) (target_on w s (x + 1)) p

-- the symbols from x on, of which so many are left; the range at hand started at `low`
unfoldable pub ascii_from : List ℕ → ℕ → ℕ → ℕ → ℕ → ℕ → List ℕ
ascii_from w s zero x low p = ending p
ascii_from w s (suc left) x low p = edge_at w s low x p ++ ascii_from w s left (x + 1) (low_at w s low x) (items_at w s x p)

abbrev pub ascii_text : List ℕ → ℕ → List ℕ
ascii_text w s = joined (ascii_label ∷ ascii_from w s 128 0 0 0 ∷ [])

-- Rows of ranges: each is low, high and a target or a continuation

unfoldable pub ranges_from : Kind → List ℕ → ℕ → ℕ → ℕ → List ℕ
ranges_from kind w zero at p = ending p
ranges_from kind w (suc n) at p = item p (get_or w at 0) (get_or w (at + 1) 0) kind (get_or w (at + 2) 0) ++ ranges_from kind w n (at + 3) (after p)

-- the row whose length stands at a place; nothing where it has no range
abbrev pub row_text : List ℕ → Kind → List ℕ → ℕ → List ℕ
row_text label kind w at = if_same (get_or w at 0) 0 [] (joined (label ∷ ranges_from kind w (get_or w at 0) (at + 1) 0 ∷ []))

-- Where the lookups find record i of section k, whose records vary in length; 0 where they find none
abbrev pub place_of : List ℕ → ℕ → ℕ → ℕ
place_of w k i = follow (listed_at w k i) (λ p. p) 0 0

-- the number of a state's wide row
abbrev pub wide_row : List ℕ → ℕ → ℕ
wide_row w s = follow (state_at w s) (λ p. get_or w (p + 1) 0) 0 0

-- the first state that has a wide row, of so many from t on; behind them, where none has
unfoldable pub first_with : List ℕ → ℕ → ℕ → ℕ → ℕ
first_with w row zero t = t
first_with w row (suc left) t = pick (eqb (wide_row w t) row) t (first_with w row left (t + 1))

-- a row that a state before has is not shown again
abbrev pub shared_text : List ℕ → ℕ → ℕ → List ℕ
shared_text w at t = if_same (get_or w at 0) 0 [] (joined (wide_as ∷ number t ∷ end_line ∷ []))

abbrev pub wide_with : List ℕ → ℕ → ℕ → ℕ → List ℕ
wide_with w s at t = if_same t s (row_text wide_label Target w at) (shared_text w at t)

abbrev pub wide_text : List ℕ → ℕ → List ℕ
wide_text w s = wide_with w s (place_of w WIDE-START (wide_row w s)) (first_with w (wide_row w s) s 0)

-- "escape rows: EOF continuation or NONE, length, then low, high, continuation"
abbrev pub escapes_text : List ℕ → ℕ → List ℕ
escapes_text w s = row_text escapes_label Continuation w (place_of w ESCAPES-START s + 1)
