use Rattle.rule_runs.proofs.Rows.{unpacking}
use Rattle.rule_runs.proofs.row_of.Goals as goal

pub loop-i-preserved : goal.loop-i-preserved
loop-i-preserved c = search unpacking

pub returns : goal.returns
returns c = search unpacking
