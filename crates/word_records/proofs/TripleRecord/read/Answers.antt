-- Each answer is the case of the record that the tests on the way say.
use Rattle.word_reader.proofs.Laws.{cases}
use Rattle.word_records.proofs.ListedForms.{triple_form}
use Rattle.word_records.proofs.TripleRecord.read.Goals as goal

pub returns-then-left_from-lt3 : goal.returns-then-left_from-lt3
returns-then-left_from-lt3 c = search (cases, triple_form)

pub returns : goal.returns
returns c = search (cases, triple_form)
