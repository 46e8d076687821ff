-- The points up to the high, without those below the low.
use Rattle.room_coverage.proofs.Laws.{ranging}
use Rattle.room_coverage.proofs.range_points.Goals as goal

pub returns-then-target-from : goal.returns-then-target-from
returns-then-target-from c = search ranging

pub returns : goal.returns
returns c = search ranging
