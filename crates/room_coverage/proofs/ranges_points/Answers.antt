use Rattle.room_coverage.proofs.Laws.{counting}
use Rattle.room_coverage.proofs.ranges_points.Goals as goal

pub overflow_add-points : goal.overflow_add-points
overflow_add-points c = search counting

pub loop-i-preserved : goal.loop-i-preserved
loop-i-preserved c = search counting

pub returns : goal.returns
returns c = search counting
