use Rattle.room_fill.proofs.Writing.{storing}
use Rattle.room_fill.proofs.renew.put_flags.Goals as goal

pub loop-i-preserved : goal.loop-i-preserved
loop-i-preserved c = search storing

pub returns : goal.returns
returns c = search storing
