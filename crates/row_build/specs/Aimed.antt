-- Rows as the loops of row building meet them, segment by segment: from the segments as numbers, the place of each segment's mask among the distinct masks, and
-- what was given each place. One definition for both kinds of row, e says which: an escape row, or one of targets. Assumes nothing.
use Rattle.std.specs.Prelude.{ℕ, zero, suc, ◌+◌, ◌*◌, ◌-◌, ◌≤◌, min, max, ◌≡◌, Bool, true, false, ◌||◌, Ok, List, [], ◌∷◌, ◌++◌, eqb, ltb, length, get_or, replicate}
use Rattle.refusal.specs.Fixed.{DEAD-STATE}
use Rattle.refusal.specs.Said.{ok}
use Rattle.refusal.specs.Lists.{pick}
use Rattle.law_tables.specs.Table.{Range}
use Rattle.buffer.specs.Over.{lay, Put}
use Rattle.law_rows.specs.Row.{Row, Sorted, numbers, join_to, part_from, ascii_part}
use Rattle.row_goals.specs.Goals.{target_at, goal_of}
use Rattle.row_goals.specs.Edges.{no_goal, first_of}
use Rattle.row_build.specs.declared.Rows.{Rows}
use Rattle.row_build.specs.Answer.{said}

abbrev pub range_of : ℕ → ℕ → ℕ → Range
range_of low high goal = record { low = low; high = high; goal = goal }

-- n segments from the k-th on, each with the goal of its place, those that are left out too
unfoldable pub aimed : (ℕ → ℕ) → List ℕ → List ℕ → ℕ → ℕ → Row
aimed goal segments places zero k = []
aimed goal segments places (suc n) k =
    range_of (get_or segments (2 * k) 0) (get_or segments (2 * k + 1) 0) (goal (get_or places k 0)) ∷ aimed goal segments places n (k + 1)

-- "Dead segments are left out of rows": ranges whose goal is another than d
unfoldable pub living : ℕ → Row → Row
living d [] = []
living d (r ∷ rs) = pick (eqb r.goal d) (living d rs) (r ∷ living d rs)

-- what of a row is written
abbrev pub seen : Bool → Row → Row
seen e rs = part_from (first_of e) (living (no_goal e) rs)

-- .. of one range
abbrev pub seen_words : Bool → ℕ → ℕ → ℕ → List ℕ
seen_words e low high goal = pick (ltb high (first_of e) || eqb goal (no_goal e)) [] (max low (first_of e) ∷ high ∷ goal ∷ [])

-- the first `count` segments, joined to a range without a goal, so far as they are written
abbrev pub joined : Bool → List ℕ → List ℕ → List ℕ → List ℕ → ℕ → Row
joined e targets conts segments places count = seen e (join_to (range_of 0 0 (no_goal e)) (aimed (goal_of e targets conts) segments places count 0))

-- the ascii targets from n on to behind a range: dead ones before it, then its own
unfoldable pub targets_of : ℕ → ℕ → ℕ → ℕ → List ℕ
targets_of n low high goal = replicate (min low 128 - n) DEAD-STATE ++ replicate (min (suc high) 128 - min low 128) goal

-- `count` segments stand, with a place for each, and `out` can take a range for each and one more ..
pub record Spaced (segments places : List ℕ) (count : ℕ) (out : List ℕ) : Type 0 where
  pub points : 2 * count ≤ length segments
  pub each : count ≤ length places
  pub room : 3 * count + 3 ≤ length out

-- .. or the ascii targets; then the segments ascend
pub record Ordered (segments places : List ℕ) (count : ℕ) (out : List ℕ) : Type 0 where
  pub points : 2 * count ≤ length segments
  pub each : count ≤ length places
  pub room : 128 ≤ length out
  pub order : (goal : ℕ → ℕ) → Sorted 0 (aimed goal segments places count 0)

-- .. and so for all three rows
pub record Ready (segments places : List ℕ) (count : ℕ) (ascii wide escape : List ℕ) : Type 0 where
  pub narrow : Ordered segments places count ascii
  pub broad : Spaced segments places count wide
  pub escapes : Spaced segments places count escape

-- "`split_rows` parts at 128": the ascii targets stand in front of one buffer, and the n numbers of the wide row in front of the other
pub record Split (targets conts segments places : List ℕ) (count : ℕ) (ascii ascii' wide : List ℕ) (n : ℕ) (wide' : List ℕ) : Type 0 where
  pub narrow : ascii' ≡ lay 0 (ascii_part (aimed (target_at targets) segments places count 0)) ascii
  pub broad : Put (numbers (joined false targets conts segments places count)) 0 wide n wide'

-- .. and the escape row in front of a third
pub record Filled (r : Rows) (targets conts segments places : List ℕ) (count : ℕ) (ascii ascii' wide wide' escape escape' : List ℕ) : Type 0 where
  pub says : said (Ok r) ≡
      ok (length (numbers (joined false targets conts segments places count)) ∷ length (numbers (joined true targets conts segments places count)) ∷ [])
  pub narrow : ascii' ≡ lay 0 (ascii_part (aimed (target_at targets) segments places count 0)) ascii
  pub broad : wide' ≡ lay 0 (numbers (joined false targets conts segments places count)) wide
  pub escapes : escape' ≡ lay 0 (numbers (joined true targets conts segments places count)) escape
