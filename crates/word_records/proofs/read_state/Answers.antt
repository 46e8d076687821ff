-- Each answer is the case of the record that the tests on the way say.
use Rattle.word_reader.proofs.Laws.{cases}
use Rattle.word_records.proofs.SimpleForms.{state_form}
use Rattle.word_records.proofs.read_state.Goals as goal

pub returns-then-left-lt3 : goal.returns-then-left-lt3
returns-then-left-lt3 c = search (cases, state_form)

pub returns-then-eof_target-gt-MAX_TARGET : goal.returns-then-eof_target-gt-MAX_TARGET
returns-then-eof_target-gt-MAX_TARGET c = search (cases, state_form)

pub returns-then-left-lt4 : goal.returns-then-left-lt4
returns-then-left-lt4 c = search (cases, state_form)

pub returns : goal.returns
returns c = search (cases, state_form)
