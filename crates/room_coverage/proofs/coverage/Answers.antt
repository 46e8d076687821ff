-- The room is judged before the state is looked for.
use Rattle.room_coverage.proofs.Laws.{judging}
use Rattle.room_coverage.proofs.coverage.Goals as goal

pub state_points-requires : goal.state_points-requires
state_points-requires c = search judging

pub returns-in-Ok : goal.returns-in-Ok
returns-in-Ok c = search judging

pub returns-in-Err : goal.returns-in-Err
returns-in-Err c = search judging
