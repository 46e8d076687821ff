-- The test is the definition's.
use Rattle.rule_words.specs.Flags.{plain}
use Rattle.rule_words.proofs.plain.Goals as goal

pub returns : goal.returns
unfolding plain
returns c = cc
