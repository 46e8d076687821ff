-- The answer goes on from what was found.
use Rattle.room_coverage.specs.Spans.{wide_spans}
use Rattle.room_coverage.proofs.Laws.{following}
use Rattle.room_coverage.proofs.wide_points.Goals as goal

pub offset_bounds-room-p : goal.offset_bounds-room-p
unfolding wide_spans
offset_bounds-room-p c = search following

pub bounds-room-p : goal.bounds-room-p
unfolding wide_spans
bounds-room-p c = search following

pub row_points-requires : goal.row_points-requires
unfolding wide_spans
row_points-requires c = search following

pub returns-in-Ok : goal.returns-in-Ok
unfolding wide_spans
returns-in-Ok c = search following

pub returns-in-Err : goal.returns-in-Err
unfolding wide_spans
returns-in-Err c = search following
