-- By the law of every loop that writes: the places that are left, written from here, give what all of them give.
use Prim.Native.Nat.{◌-◌}
use lib.ListN.{get_or}
use Rattle.refusal.specs.Lists.{each}
use Rattle.word_sections.specs.Kinds.{record_at}
use Rattle.buffer.proofs.Going.{Going}
use Rattle.room_fill.specs.Room.{starts, shifted, placed}
use Rattle.room_fill.proofs.places.put_record_places.Given as goal

abbrev pub invariant-loop-i : goal.invariant-loop-i
invariant-loop-i l =
    Going (placed (record_at l.kind) l.words l.at) l.n l.initial.room
    (each shifted (starts (record_at l.kind l.words) (get_or l.words l.at 0 - l._i) l.here)) l.m l.room
