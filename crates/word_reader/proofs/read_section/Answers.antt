-- The count is there, or the input ends.
use Rattle.word_reader.proofs.Laws.{counting}
use Rattle.word_reader.proofs.read_section.Goals as goal

pub returns-then-words-at : goal.returns-then-words-at
returns-then-words-at g c = search counting

pub returns : goal.returns
returns g c = search counting
