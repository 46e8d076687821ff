-- The run of a row with more than three exits, by its ranges. Assumes nothing.
use mathlib.Core.Path.{◌≡◌, refl}
use mathlib.Core.Bool.{Bool, true, false, ◌&&◌}
use mathlib.Core.List.{List}
use lib.Dec.{leb}
use lib.ListN.{length}
use borrow.Author.Rules.{rules}
use Rattle.std.specs.Prelude.{Option, Some, None}
use Rattle.refusal.specs.Lists.{pick}
use Rattle.run_ranges.specs.declared.AsciiRange.{AsciiRange}
use Rattle.run_ranges.specs.declared.AsciiRanges.{AsciiRanges}
use Rattle.run_ranges.specs.Ranges.{up_to_four, one_to_four}
use Rattle.run_shape.specs.declared.AsciiRun.{AsciiRun}
use Rattle.run_shape.specs.declared.AsciiRun.TheVariants as runs
use Rattle.run_shape.specs.Shape.{none, ranges, held}
use Rattle.run_shape.specs.Classify.{by_ranges}

-- the run of ranges, or none
abbrev run_by : Option AsciiRanges → AsciiRun
run_by (Some r) = runs.Ranges r
run_by None = runs.None

module _ (rs : List AsciiRange) where
  by_count : run_by (one_to_four rs) ≡ held (by_ranges rs)
  unfolding one_to_four by_ranges held
  by_count = cases (leb 1 (length rs) && leb (length rs) 4) where
    cases : (t : Bool) → run_by (pick t (Some (up_to_four rs)) None) ≡ held (pick t (ranges rs) none)
    cases true = refl
    cases false = refl

  pub by_some : {q : AsciiRanges} → one_to_four rs ≡ Some q → runs.Ranges q ≡ held (by_ranges rs)
  by_some e = rw e at by_count

  pub by_none : one_to_four rs ≡ None → runs.None ≡ held (by_ranges rs)
  by_none e = rw e at by_count

pub ruleset ranging = (rules, by_some, by_none)
