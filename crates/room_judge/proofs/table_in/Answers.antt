-- By the tests on the room's length and on the count.
use Rattle.room_judge.proofs.Filled.{measuring}
use Rattle.room_judge.proofs.table_in.Goals as goal

pub returns-then-room-lt-ROOM_NUMBERS : goal.returns-then-room-lt-ROOM_NUMBERS
returns-then-room-lt-ROOM_NUMBERS c = search measuring

pub returns-then-count-gt-MAX_WORDS : goal.returns-then-count-gt-MAX_WORDS
returns-then-count-gt-MAX_WORDS c = search measuring

pub find_table-requires : goal.find_table-requires
find_table-requires c = search measuring
