use Rattle.tableshow.proofs.Parts.{edges, edges-on}
use Rattle.tableshow.proofs.rows.put_edges.Goals as goal

pub loop-symbol-init : goal.loop-symbol-init
loop-symbol-init c = search edges

pub loop-symbol-preserved : goal.loop-symbol-preserved
loop-symbol-preserved c = search edges-on

pub returns : goal.returns
returns c = search edges
