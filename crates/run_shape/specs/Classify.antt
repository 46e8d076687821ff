-- The classification of a row (document 01, "Classification"). Assumes nothing.
use Rattle.std.specs.Prelude.{ℕ, suc, ◌&&◌, Ok, List, [], ◌∷◌, eqb, leb, length}
use Rattle.refusal.specs.Said.{FIELD}
use Rattle.refusal.specs.Lists.{pick}
use Rattle.run_ranges.specs.declared.AsciiRange.{AsciiRange}
use Rattle.run_ranges.specs.Ranges.{exits_at, ranges_from}
use Rattle.run_shape.specs.Shape.{Shape, none, any, until, ranges, held, Got, refused}

-- "symbols not looping on the state are exits": of a row whose first target is that of `symbol`
unfoldable pub exits_from : ℕ → ℕ → List ℕ → List ℕ
exits_from state symbol [] = []
exits_from state symbol (t ∷ ts) = pick (exits_at state t) (symbol ∷ exits_from state (suc symbol) ts) (exits_from state (suc symbol) ts)

-- 0 exits give any; 1 to 3 give until, ascending; otherwise the maximal looping ranges if 1 to 4, else none
unfoldable pub by_ranges : List AsciiRange → Shape
by_ranges rs = pick (leb 1 (length rs) && leb (length rs) 4) (ranges rs) none

unfoldable pub by_exits : List ℕ → List AsciiRange → Shape
by_exits es rs = pick (eqb (length es) 0) any (pick (leb (length es) 3) (until es) (by_ranges rs))

abbrev pub classification : ℕ → List ℕ → Shape
classification state row = by_exits (exits_from state 0 row) (ranges_from state 0 row)

-- called alone, it takes 128 targets and a state; anything else is FIELD
unfoldable pub classified : ℕ → List ℕ → Got
classified state row = pick (eqb (length row) 128) (Ok (held (classification state row))) (refused FIELD 0)
