-- The ranges that are left, from here, give what all of them give.
use Prim.Native.Nat.{◌≤◌, ◌+◌, ◌-◌, ◌*◌}
use mathlib.Core.Path.{◌≡◌}
use lib.ListN.{length}
use Rattle.look_row.specs.Search.{found}
use Rattle.look_row.proofs.find_from.Given as goal

abbrev pub invariant-loop : goal.invariant-loop
invariant-loop l = (found l.room l.x (l.count - l.counter) l.here ≡ found l.room l.x l.count l.at) × (l.here + (l.count - l.counter) * 3 ≤ length l.room)
