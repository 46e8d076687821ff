-- Each answer is the case of the record that the tests on the way say.
use Rattle.word_reader.proofs.Laws.{cases}
use Rattle.word_records.proofs.ContinuationForms.{context_form}
use Rattle.word_records.proofs.ContextRecord.read.Goals as goal

pub returns-then-left_from-lt3 : goal.returns-then-left_from-lt3
returns-then-left_from-lt3 c = search (cases, context_form)

pub returns-then-words-at-gt1 : goal.returns-then-words-at-gt1
returns-then-words-at-gt1 c = search (cases, context_form)

pub returns : goal.returns
returns c = search (cases, context_form)
