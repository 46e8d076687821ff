-- The words are judged as words are, and the room compared with what decoding them leaves.
use Rattle.room_judge.proofs.Filled.{judging}
use Rattle.room_judge.proofs.find_table.Goals as goal

pub returns-in_default : goal.returns-in_default
returns-in_default c = search judging

pub returns-then-is_sound : goal.returns-then-is_sound
returns-then-is_sound c = search judging

pub returns-else-is_sound : goal.returns-else-is_sound
returns-else-is_sound c = search judging
