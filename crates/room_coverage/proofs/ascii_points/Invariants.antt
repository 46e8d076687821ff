-- The points below x are counted.
use mathlib.Core.Path.{◌≡◌}
use Rattle.room_coverage.specs.Coverage.{goes_on, count}
use Rattle.room_coverage.proofs.ascii_points.Given as goal

abbrev pub invariant-loop-x : goal.invariant-loop-x
invariant-loop-x l = l.points ≡ count (goes_on l.room l.state) l.x
