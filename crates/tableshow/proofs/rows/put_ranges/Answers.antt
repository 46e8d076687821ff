use Rattle.tableshow.proofs.Parts.{ranges}
use Rattle.tableshow.proofs.rows.put_ranges.Goals as goal

pub loop-i-init : goal.loop-i-init
loop-i-init c = search ranges

pub loop-i-preserved : goal.loop-i-preserved
loop-i-preserved c = search ranges

pub returns : goal.returns
returns c = search ranges
