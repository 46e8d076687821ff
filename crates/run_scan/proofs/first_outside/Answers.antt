use Rattle.refusal.proofs.Lists.{searching-least}
use Rattle.run_scan.proofs.first_outside.Goals as goal

pub loop-k-init : goal.loop-k-init
loop-k-init c = search searching-least

pub loop-k-preserved : goal.loop-k-preserved
loop-k-preserved c = search searching-least
