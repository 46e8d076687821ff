use Rattle.refusal.proofs.Lists.{searching-parts}
use Rattle.run_scan.proofs.scan_blocks.Goals as goal

pub returns-then-first-lt16 : goal.returns-then-first-lt16
returns-then-first-lt16 c = search searching-parts

pub loop-at-preserved : goal.loop-at-preserved
loop-at-preserved c = search searching-parts

pub returns : goal.returns
returns c = search searching-parts
