-- The output is cleared, the room judged, and the words written.
use Rattle.room_encode.proofs.Writing.{judged}
use Rattle.room_encode.proofs.encode.Goals as goal

pub returns-in-Err : goal.returns-in-Err
returns-in-Err c = search judged
