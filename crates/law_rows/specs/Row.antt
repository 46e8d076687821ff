-- Rows of ranges as row building makes them (document 01, "Transitions, segments, rows"). A row is a table's wide or escape row: each range has its low, its
-- high and its goal, a target or a continuation, and is searched by `goal_at`. Assumes nothing.
use Rattle.std.specs.Prelude.{ℕ, zero, suc, ◌-◌, ◌≤◌, max, Bool, ◌&&◌, List, [], ◌∷◌, ltb, eqb, get_or}
use Rattle.refusal.specs.Lists.{pick, each}
use Rattle.law_tables.specs.Table.{Range, range_words}
use Rattle.refusal.specs.Fixed.{DEAD-STATE}
use Rattle.law_lookups.specs.Looks.{goal_at}

abbrev pub Row : Type 0
Row = List Range

-- a row as its numbers: low, high and goal of each range
abbrev pub numbers : Row → List ℕ
numbers = each range_words

-- "low at most high, each high below the next low": the ranges ascend, from `from` on
abbrev pub Sorted : ℕ → Row → Type 0
Sorted from [] = Unit {0}
Sorted from (r ∷ rs) = (from ≤ r.low) × (r.low ≤ r.high) × Sorted (suc r.high) rs

-- a fact of each range
abbrev pub Each : (Range → Type 0) → Row → Type 0
Each P [] = Unit {0}
Each P (r ∷ rs) = P r × Each P rs

-- "a segment runs from a cut to before the next": the segment from c to before n, with what f gives at its first point
abbrev pub segment : (ℕ → ℕ) → ℕ → ℕ → Range
segment f c n = record { low = c; high = n - 1; goal = f c }

-- "Dead segments are left out of rows": the segments from the cut c on, without those whose goal is `other`
unfoldable pub row_from : ℕ → (ℕ → ℕ) → ℕ → List ℕ → Row
row_from other f c [] = []
row_from other f c (n ∷ cuts) = pick (eqb (f c) other) (row_from other f n cuts) (segment f c n ∷ row_from other f n cuts)

unfoldable pub row_over : ℕ → (ℕ → ℕ) → List ℕ → Row
row_over other f [] = []
row_over other f (c ∷ cuts) = row_from other f c cuts

-- "touching .. ranges of one target": r starts right behind a, and has its goal
abbrev pub touches : Range → Range → Bool
touches a r = eqb (suc a.high) r.low && eqb a.goal r.goal

abbrev pub grown : Range → Range → Range
grown a r = record { low = a.low; high = r.high; goal = a.goal }

-- "joins touching .. ranges": a is held back, since it may still grow
unfoldable pub join_to : Range → Row → Row
join_to a [] = a ∷ []
join_to a (r ∷ rs) = pick (touches a r) (join_to (grown a r) rs) (a ∷ join_to r rs)

unfoldable pub join : Row → Row
join [] = []
join (r ∷ rs) = join_to r rs

-- "parts at 128": what of a row lies at k and behind it
abbrev pub cut_to : ℕ → Range → Range
cut_to k r = record { low = max r.low k; high = r.high; goal = r.goal }

unfoldable pub part_from : ℕ → Row → Row
part_from k [] = []
part_from k (r ∷ rs) = pick (ltb r.high k) (part_from k rs) (cut_to k r ∷ part_from k rs)

-- what f gives at n points from `first` on
unfoldable pub values : (ℕ → ℕ) → ℕ → ℕ → List ℕ
values f first zero = []
values f first (suc n) = f first ∷ values f (suc first) n

-- "`split_rows` parts at 128 and joins touching wide ranges of one target": 128 ascii targets and a wide row
abbrev pub ascii_part : Row → List ℕ
ascii_part rs = values (goal_at DEAD-STATE rs) 0 128

abbrev pub wide_part : Row → Row
wide_part rs = join (part_from 128 rs)

-- "0 to 127 use the ascii row; otherwise" the wide row, as `char_target` does
abbrev pub target_in : List ℕ → Row → ℕ → ℕ
target_in ascii wide p = pick (ltb p 128) (get_or ascii p 0) (goal_at DEAD-STATE wide p)
