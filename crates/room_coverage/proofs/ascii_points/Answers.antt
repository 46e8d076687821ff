use Rattle.room_coverage.proofs.Laws.{asking}
use Rattle.room_coverage.proofs.ascii_points.Goals as goal

pub loop-x-init : goal.loop-x-init
loop-x-init c = search asking

pub overflow_add-points : goal.overflow_add-points
overflow_add-points c = search asking

pub loop-x-preserved : goal.loop-x-preserved
loop-x-preserved c = search asking
