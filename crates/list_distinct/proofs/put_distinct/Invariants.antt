-- The masks that stand, with those that are left, give the distinct ones of all.
use Prim.Native.Nat.{◌-◌, ◌*◌}
use Rattle.list_distinct.proofs.Distincts.{Gathering}
use Rattle.list_distinct.proofs.put_distinct.Given as goal

abbrev pub invariant-loop-i : goal.invariant-loop-i
invariant-loop-i l = Gathering l.masks l.count l.words l.initial.out l.initial.places (l.count - l.i) (l.i * l.words) l.d l.i l.out l.places
