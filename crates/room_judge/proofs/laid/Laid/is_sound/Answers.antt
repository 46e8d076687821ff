-- The rules are judged, and then the room is compared.
use Rattle.room_judge.proofs.Filled.{filling}
use Rattle.room_judge.proofs.laid.Laid.is_sound.Goals as goal

pub returns-then-is_none : goal.returns-then-is_none
returns-then-is_none c = search filling

pub returns-else-is_none : goal.returns-else-is_none
returns-else-is_none c = search filling
