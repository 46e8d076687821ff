-- The test is the definition's.
use Rattle.rule_words.specs.Rules.{none_or}
use Rattle.rule_words.proofs.none_or.Goals as goal

pub returns : goal.returns
unfolding none_or
returns c = cc
