-- The test is the definition's.
use borrow.Author.Rules.{rules}
use Rattle.rule_words.specs.Rules.{good}
use Rattle.rule_words.proofs.good.Goals as goal

pub returns : goal.returns
unfolding good
returns c = search rules
