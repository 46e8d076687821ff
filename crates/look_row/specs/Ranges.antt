-- A wide row as a list of range records, and its search: that of the row's numbers (specs/Search). Assumes nothing.
use Rattle.std.specs.Prelude.{ℕ, ◌+◌, ◌*◌, ◌<◌, ◌≤◌, ◌≡◌, List, [], ◌∷◌, length, get_or, Option, Result, Ok}
use Rattle.refusal.specs.Fixed.{DEAD-STATE}
use Rattle.room_find.specs.declared.Missing.{Missing}
use Rattle.look_row.specs.Search.{found, given}
use Rattle.look_row.specs.declared.WideRange.{WideRange}

-- "length, then low, high, target": the numbers of a row behind its length
abbrev pub numbers : List WideRange → List ℕ
numbers [] = []
numbers (r ∷ rs) = r.low ∷ r.high ∷ r.target ∷ numbers rs

-- the target that a search gives, "else dead"
abbrev pub target_of : Result (Option ℕ) Missing → ℕ
target_of h = given h (λ t. t) DEAD-STATE DEAD-STATE

-- "read to the first range whose high is at least the symbol;
-- its target if low is at most the symbol, else dead": over records, by the search over their numbers
unfoldable pub target_in : List WideRange → ℕ → ℕ
target_in rs x = target_of (Ok (found (numbers rs) x (length rs) 0))

-- the row stands in a room: its length at a place of a section that ends at e and lies in the room, and behind it its numbers
pub record Stands (w : List ℕ) (at e : ℕ) (rs : List WideRange) : Type 0 where
  pub inside : e ≤ length w
  pub whole : length rs * 3 + at < e
  pub counted : get_or w at 0 ≡ length rs
  pub same : (j : ℕ) → j < length rs * 3 → get_or w (at + 1 + j) 0 ≡ get_or (numbers rs) j 0
