use Rattle.room_find.proofs.Laws.{passing}
use Rattle.room_find.proofs.past_lists.Goals as goal

pub loop-j-init : goal.loop-j-init
loop-j-init c = search passing

pub returns-then-room-at : goal.returns-then-room-at
returns-then-room-at c = search passing

pub loop-j-preserved : goal.loop-j-preserved
loop-j-preserved c = search passing

pub returns : goal.returns
returns c = search passing
