-- What is counted of the records that are left, with what was counted, is what is counted of all. The measure is how many may still come.
use Prim.Native.Nat.{◌-◌, ◌≤◌}
use mathlib.Core.Path.{◌≡◌}
use Rattle.list_transitions.specs.Read.{parse_from, parse, counted}
use Rattle.list_transitions.proofs.Records.{counted_from}
use Rattle.list_transitions.proofs.read_transitions.Given as goal

abbrev pub invariant-loop-at : goal.invariant-loop-at
invariant-loop-at l = (l.used ≤ 1024) × (l.left ≤ 256) × (counted_from (256 - l.left) l.used (parse_from l.list l.left l.at l.used) ≡ counted (parse l.list))

abbrev pub decreases-loop-at : goal.decreases-loop-at
decreases-loop-at l = l.left
