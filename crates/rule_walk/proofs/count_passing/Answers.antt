-- Each answer is the case of the walk that the tests on the way say.
use Rattle.rule_words.proofs.Laws.{one_passed, one_failed, one_lost, all_passed}
use Rattle.rule_walk.proofs.Asking.{there, gone}
use Rattle.rule_walk.proofs.count_passing.Goals as goal

pub returns-in_default : goal.returns-in_default
returns-in_default c = one_lost _ _ _ _ _ c.loop-number.invariant c.loop-number-test.true (gone _ c.in_default.ensures).1

pub returns-then-not-passes : goal.returns-then-not-passes
returns-then-not-passes c = one_failed _ _ _ _ _ c.loop-number.invariant c.loop-number-test.true (there _ c.in-Some.ensures) c.if-not-passes.ensures

pub loop-number-preserved : goal.loop-number-preserved
loop-number-preserved c = one_passed _ _ _ _ _ c.loop-number.invariant c.loop-number-test.true (there _ c.in-Some.ensures) c.if-not-passes.ensures

pub returns : goal.returns
returns c = all_passed _ _ _ _ _ c.loop-number.invariant c.loop-number-test.false c.loop-number.auto.number-end
