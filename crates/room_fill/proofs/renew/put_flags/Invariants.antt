-- By the law of every loop that writes: the flags that are left, written from here, give what all of them give.
use Prim.Native.Nat.{◌+◌}
use lib.ListN.{drop}
use Rattle.std.specs.Prelude.{map}
use Rattle.buffer.proofs.Going.{Going}
use Rattle.room_fill.specs.Room.{flag}
use Rattle.room_fill.proofs.renew.put_flags.Given as goal

abbrev pub invariant-loop-i : goal.invariant-loop-i
invariant-loop-i l = Going (map flag l.words) l.n l.initial.room (map flag (drop l.i l.words)) (l.n + l.i) l.room
