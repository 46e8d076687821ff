-- Each answer is the case that the tests on the way say.
use Rattle.word_layout.proofs.Chain.{ends}
use Rattle.word_layout.proofs.find_sections.Goals as goal

pub returns-then-words-eq0 : goal.returns-then-words-eq0
returns-then-words-eq0 c = search ends

pub returns-then-words-ne-SERIALIZED_TAG : goal.returns-then-words-ne-SERIALIZED_TAG
returns-then-words-ne-SERIALIZED_TAG c = search ends

pub returns : goal.returns
returns c = search ends
