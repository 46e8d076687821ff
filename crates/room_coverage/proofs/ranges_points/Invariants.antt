-- What is counted, and the ranges that are left from here, give what all of them give.
use Prim.Native.Nat.{◌+◌, ◌*◌, ◌-◌, ◌≤◌}
use mathlib.Core.Path.{◌≡◌}
use lib.ListN.{length}
use Rattle.room_coverage.specs.Spans.{spans}
use Rattle.room_coverage.proofs.ranges_points.Given as goal

abbrev pub invariant-loop-i : goal.invariant-loop-i
invariant-loop-i l =
    (l.points + spans l.room (l.count - l._i) l.here ≡ spans l.room l.count l.at) × (l.here + (l.count - l._i) * 3 ≤ length l.room)
