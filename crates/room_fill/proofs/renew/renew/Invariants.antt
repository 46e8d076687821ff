-- By the law of every loop that writes: the records that are left, written from here, give what all of them give; before them stands the count.
use Prim.Native.Nat.{◌+◌, ◌-◌}
use lib.ListN.{get_or}
use Rattle.refusal.specs.Lists.{each}
use Rattle.buffer.proofs.Going.{Going}
use Rattle.room_fill.specs.Room.{starts}
use Rattle.room_fill.proofs.renew.renew.Given as goal

abbrev pub invariant-loop-i : goal.invariant-loop-i
invariant-loop-i g l =
    let k = g.R.Renewed in
    Going (each (k.made l.words) (starts (k.ends l.words) (get_or l.words l.at 0) (l.at + 1))) (l.n + 1) l.initial.room
    (each (k.made l.words) (starts (k.ends l.words) (get_or l.words l.at 0 - l._i) l.here)) l.m l.room
