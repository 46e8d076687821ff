-- The test is the definition's.
use Rattle.rule_words.specs.Rules.{present}
use Rattle.rule_words.proofs.present.Goals as goal

pub returns : goal.returns
unfolding present
returns c = cc
