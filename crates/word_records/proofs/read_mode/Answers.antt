-- Each answer is the case of the record that the tests on the way say.
use Rattle.word_reader.proofs.Laws.{cases}
use Rattle.word_records.proofs.SimpleForms.{mode_form}
use Rattle.word_records.proofs.read_mode.Goals as goal

pub returns-then-words-at : goal.returns-then-words-at
returns-then-words-at c = search (cases, mode_form)

pub returns-then-start-le-MAX_TARGET : goal.returns-then-start-le-MAX_TARGET
returns-then-start-le-MAX_TARGET c = search (cases, mode_form)

pub returns-then-start : goal.returns-then-start
returns-then-start c = search (cases, mode_form)

pub returns : goal.returns
returns c = search (cases, mode_form)
