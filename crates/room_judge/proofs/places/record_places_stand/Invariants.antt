-- By the law of every loop that compares: the places that are left, compared from here, give what all of them give.
use mathlib.Core.Path.{◌≡◌}
use lib.ListN.{get_or}
use Rattle.word_sections.specs.Kinds.{record_at}
use Rattle.room_fill.specs.Room.{placed}
use Rattle.room_judge.specs.Standing.{standing}
use Rattle.room_judge.proofs.Comparing.{coming}
use Rattle.room_judge.proofs.places.record_places_stand.Given as goal

abbrev pub invariant-loop-i : goal.invariant-loop-i
invariant-loop-i l =
    coming (record_at l.kind l.words) l.room (get_or l.words l.at 0) l._i l.here l.m ≡ standing (placed (record_at l.kind) l.words l.at) l.n l.room
