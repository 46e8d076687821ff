-- The loop's invariant: what was seen, with what there is in the ranges from here on, is what there is in all.
use mathlib.Core.Path.{◌≡◌}
use lib.ListN.{take, drop}
use Rattle.run_class.specs.Class.{bytes_of}
use Rattle.run_class.specs.Seen.{both, seen_in}
use Rattle.run_class.proofs.see_ranges.Given as goal

abbrev pub invariant-loop-range : goal.invariant-loop-range
invariant-loop-range l = both l.seen (seen_in (bytes_of (drop l.range-index (take l.count l.fn.ranges.ranges)))) ≡ seen_in (bytes_of (take l.count l.fn.ranges.ranges))
