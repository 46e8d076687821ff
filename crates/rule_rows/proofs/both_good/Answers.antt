-- The test is made of the targets of the word.
use Rattle.rule_rows.proofs.Tests.{row_words}
use Rattle.rule_rows.proofs.both_good.Goals as goal

pub returns : goal.returns
returns c = search row_words
