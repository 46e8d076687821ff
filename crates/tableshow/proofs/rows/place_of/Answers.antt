-- A place that is found lies in the room.
use Rattle.tableshow.proofs.Parts.{places}
use Rattle.tableshow.proofs.rows.place_of.Goals as goal

pub returns-in-Ok : goal.returns-in-Ok
returns-in-Ok c = search places

pub returns-in-Err : goal.returns-in-Err
returns-in-Err c = search places
