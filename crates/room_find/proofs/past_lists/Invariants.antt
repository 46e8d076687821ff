-- The lists that are left, from here, lead to what all of them lead to.
use Prim.Native.Nat.{◌+◌}
use Rattle.room_find.specs.Room.{listed_in, past_lists}
use Rattle.room_find.proofs.Laws.{Left}
use Rattle.room_find.proofs.past_lists.Given as goal

abbrev pub invariant-loop-j : goal.invariant-loop-j
invariant-loop-j l =
    let f = listed_in l.room l.start l.end l.i in
    Left l.room f (past_lists l.room l.count 0 (9 + l.words) f) l.count l.j l.list
