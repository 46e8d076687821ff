use Rattle.list_distinct.proofs.Distincts.{comparing}
use Rattle.list_distinct.proofs.same.Goals as goal

pub returns-then-one-i : goal.returns-then-one-i
returns-then-one-i c = search comparing

pub loop-i-preserved : goal.loop-i-preserved
loop-i-preserved c = search comparing

pub returns : goal.returns
returns c = search comparing
