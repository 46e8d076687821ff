use Rattle.replay_io.proofs.Putting.{putting}
use Rattle.replay_io.proofs.read.put_halves.Goals as goal

pub loop-i-init : goal.loop-i-init
loop-i-init c = search putting

pub loop-i-preserved : goal.loop-i-preserved
loop-i-preserved c = search putting

pub returns-clause-put_whole : goal.returns-clause-put_whole
returns-clause-put_whole c = search putting
