use Rattle.room_fill.proofs.Writing.{recording}
use Rattle.room_fill.proofs.renew.renew.Goals as goal

pub bounds-room-n : goal.bounds-room-n
bounds-room-n g c = search recording

pub loop-i-init : goal.loop-i-init
loop-i-init g c = search recording

pub put-m-requires-clause-fits : goal.put-m-requires-clause-fits
put-m-requires-clause-fits g c = search recording

pub loop-i-preserved : goal.loop-i-preserved
loop-i-preserved g c = search recording

pub returns : goal.returns
returns g c = search recording

pub returns-in_default : goal.returns-in_default
returns-in_default g c = search recording
