-- The tests are made in their order.
use Rattle.word_layout.proofs.Laws.{limiting}
use Rattle.word_layout.proofs.find_within_limits.Goals as goal

pub returns-then-numbers-lt-ROOM_NUMBERS : goal.returns-then-numbers-lt-ROOM_NUMBERS
returns-then-numbers-lt-ROOM_NUMBERS c = search limiting

pub returns-then-words-gt-MAX_WORDS : goal.returns-then-words-gt-MAX_WORDS
returns-then-words-gt-MAX_WORDS c = search limiting

pub returns : goal.returns
returns c = search limiting
