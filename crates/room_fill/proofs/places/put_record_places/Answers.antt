use Rattle.room_fill.proofs.Writing.{placing}
use Rattle.room_fill.proofs.places.put_record_places.Goals as goal

pub loop-i-init : goal.loop-i-init
loop-i-init c = search placing

pub in_room-requires : goal.in_room-requires
in_room-requires c = search placing

pub bounds-room-m : goal.bounds-room-m
bounds-room-m c = search placing

pub loop-i-preserved : goal.loop-i-preserved
loop-i-preserved c = search placing

pub returns : goal.returns
returns c = search placing

pub returns-in_default : goal.returns-in_default
returns-in_default c = search placing
