-- Each answer is the case of the record that the tests on the way say.
use Rattle.word_reader.proofs.Laws.{cases}
use Rattle.word_records.proofs.RunForms.{ascii_form}
use Rattle.word_records.proofs.read_ascii_row.Goals as goal

pub returns-then-left_from-lt-ROW_WORDS : goal.returns-then-left_from-lt-ROW_WORDS
returns-then-left_from-lt-ROW_WORDS c = search (cases, ascii_form)

pub returns : goal.returns
returns c = search (cases, ascii_form)
