use Rattle.look_row.proofs.Searches.{skipping}
use Rattle.look_row.proofs.skip.Goals as goal

pub loop-left-preserved : goal.loop-left-preserved
loop-left-preserved c = search skipping
