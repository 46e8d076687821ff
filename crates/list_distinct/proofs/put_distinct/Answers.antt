use Rattle.list_distinct.proofs.Distincts.{gathering}
use Rattle.list_distinct.proofs.put_distinct.Goals as goal

pub loop-i-init : goal.loop-i-init
loop-i-init c = search gathering

pub loop-i-preserved : goal.loop-i-preserved
loop-i-preserved c = search gathering

pub returns : goal.returns
returns c = search gathering
