use Rattle.rule_words.specs.Rules.{both_good}
use Rattle.rule_rows.proofs.Tests.{judged_one, judged}
use Rattle.rule_rows.proofs.words_are_good.Goals as goal

pub loop-x-preserved : goal.loop-x-preserved
loop-x-preserved c = judged_one (both_good c.args.states) c.args.words.now _ _ _ c.loop-x.invariant c.loop-x-test.true c.both_good-all.ensures

pub returns : goal.returns
returns c = judged (both_good c.args.states) c.args.words.now _ _ _ c.loop-x.invariant c.loop-x-test.false
