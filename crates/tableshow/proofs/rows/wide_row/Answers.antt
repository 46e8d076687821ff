-- The number is read where the state is found.
use Rattle.tableshow.proofs.Parts.{places}
use Rattle.tableshow.proofs.rows.wide_row.Goals as goal

pub overflow_add-result : goal.overflow_add-result
overflow_add-result c = search places

pub offset_bounds-room-p : goal.offset_bounds-room-p
offset_bounds-room-p c = search places

pub bounds-room-p : goal.bounds-room-p
bounds-room-p c = search places

pub returns-in-Ok : goal.returns-in-Ok
returns-in-Ok c = search places

pub returns-in-Err : goal.returns-in-Err
returns-in-Err c = search places
