-- Each answer is the case of the record that the tests on the way say.
use Rattle.word_reader.proofs.Laws.{cases}
use Rattle.word_records.proofs.ListedForms.{config_form}
use Rattle.word_records.proofs.read_config.Goals as goal

pub returns-then-left_from-lt6 : goal.returns-then-left_from-lt6
returns-then-left_from-lt6 c = search (cases, config_form)

pub returns : goal.returns
returns c = search (cases, config_form)
