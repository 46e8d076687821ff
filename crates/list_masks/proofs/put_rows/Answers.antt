use Rattle.list_masks.proofs.Puts.{matrices}
use Rattle.list_masks.proofs.put_rows.Goals as goal

pub put_mask-k-requires : goal.put_mask-k-requires
put_mask-k-requires c = search matrices

pub loop-i-preserved : goal.loop-i-preserved
loop-i-preserved c = search matrices

pub returns : goal.returns
returns c = search matrices
