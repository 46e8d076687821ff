-- Each answer is the case of the record that the tests on the way say.
use Rattle.word_reader.proofs.Laws.{cases}
use Rattle.word_records.proofs.WideForms.{range_form}
use Rattle.word_records.proofs.RangeRecord.read.Goals as goal

pub returns-then-left_from-lt3 : goal.returns-then-left_from-lt3
returns-then-left_from-lt3 c = search (cases, range_form)

pub returns-then-target-gt-MAX_TARGET : goal.returns-then-target-gt-MAX_TARGET
returns-then-target-gt-MAX_TARGET c = search (cases, range_form)

pub returns : goal.returns
returns c = search (cases, range_form)
