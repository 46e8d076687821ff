use Rattle.look_mode_lists.proofs.Gaps.{gapping}
use Rattle.look_mode_lists.proofs.put_counts.Goals as goal

pub loop-start-init : goal.loop-start-init
loop-start-init c = search gapping

pub put_step-m-requires : goal.put_step-m-requires
put_step-m-requires c = search gapping

pub loop-start-preserved : goal.loop-start-preserved
loop-start-preserved c = search gapping

pub put_gap-requires : goal.put_gap-requires
put_gap-requires c = search gapping

pub returns : goal.returns
returns c = search gapping
