use Rattle.run_classify.proofs.Loops.{looking}
use Rattle.run_classify.proofs.from_self_loops.Goals as goal

pub loop-low-init : goal.loop-low-init
loop-low-init c = search looking

pub loop-low-preserved : goal.loop-low-preserved
loop-low-preserved c = search looking
