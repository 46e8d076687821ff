use Rattle.list_masks.proofs.Columns.{columns}
use Rattle.list_masks.proofs.add_column.Goals as goal

pub loop-k-preserved : goal.loop-k-preserved
loop-k-preserved c = search columns

pub returns : goal.returns
returns c = search columns
