use Rattle.room_judge.proofs.Comparing.{placing, places-start}
use Rattle.room_judge.proofs.places.record_places_stand.Goals.{then-room-m-via-then-room-m, then-room-m-via-else-room-m+then-room-m-2}
use Rattle.room_judge.proofs.places.record_places_stand.Goals as goal

pub loop-i-init : goal.loop-i-init
loop-i-init c = places-start _ _ _ _ _

pub returns-in_default : goal.returns-in_default
returns-in_default c = search placing

pub in_room-requires : goal.in_room-requires
in_room-requires c = search placing

pub returns-then-room-m : goal.returns-then-room-m
returns-then-room-m c =
    elim c.then-room-m.branch [
      | then-room-m-via-then-room-m w ↦ search placing
      | then-room-m-via-else-room-m+then-room-m-2 w ↦ search placing
    ]

pub loop-i-preserved : goal.loop-i-preserved
loop-i-preserved c = search placing

pub returns : goal.returns
returns c = search placing
