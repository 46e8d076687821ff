-- The loop's invariant: the ranges from here on are in order exactly when all are.
use mathlib.Core.Path.{◌≡◌}
use lib.ListN.{drop}
use Rattle.run_ranges.specs.Ranges.{ordered}
use Rattle.run_ranges.proofs.ordered.Given as goal

abbrev pub invariant-loop-range : goal.invariant-loop-range
invariant-loop-range l = ordered l.least (drop l.range-index l.ranges) ≡ ordered 0 l.fn.ranges
