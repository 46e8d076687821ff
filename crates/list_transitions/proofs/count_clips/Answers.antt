use Rattle.list_transitions.proofs.Pairs.{counts}
use Rattle.list_transitions.proofs.count_clips.Goals as goal

pub loop-i-init : goal.loop-i-init
loop-i-init c = search counts

pub loop-i-preserved : goal.loop-i-preserved
loop-i-preserved c = search counts

pub returns : goal.returns
returns c = search counts
