-- Each answer is the case of the record that the tests on the way say.
use Rattle.word_reader.proofs.Laws.{cases}
use Rattle.word_records.proofs.ListedForms.{escape_form}
use Rattle.word_records.proofs.read_escape_row.Goals as goal

pub returns-then-left_from-lt2 : goal.returns-then-left_from-lt2
returns-then-left_from-lt2 c = search (cases, escape_form)

pub returns : goal.returns
returns c = search (cases, escape_form)
