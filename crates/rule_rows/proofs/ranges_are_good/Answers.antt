-- Each answer is the case of the walk that the tests on the way say, for whatever test the closure makes.
use native.Mathlib.Omega.{arith}
use borrow.Author.Rules.{rules}
use Rattle.rule_words.proofs.Laws.{passed, failed, judged_all}
use Rattle.rule_rows.specs.Thirds.{range_good}
use Rattle.rule_rows.proofs.Tests.{asks_first, range_tested}
use Rattle.rule_rows.proofs.ranges_are_good.Goals as goal

pub loop-init : goal.loop-init
loop-init g c = (c.requires.callable, λ test t. asks_first test _ _ _, omega arith)

pub returns-then-not-follows-passes : goal.returns-then-not-follows-passes
returns-then-not-follows-passes g c = λ test t.
    let o = range_tested test _ _ _ c.follows.ensures (t _ _ (search rules) c.passes.ensures) c.word_past.ensures in
    failed (range_good test _) _ 3 _ _ _ _ (c.loop.invariant.1 test t) c.loop-test.true o (search rules)

pub loop-preserved : goal.loop-preserved
loop-preserved g c = (
  c.requires.callable,
  λ test t.
      let o = range_tested test _ _ _ c.follows.ensures (t _ _ (search rules) c.passes.ensures) c.word_past.ensures in
      passed (range_good test _) _ 3 _ _ _ _ (c.loop.invariant.1 test t) c.loop-test.true o (search rules) c.next_from-from.ensures,
  omega (arith, c.loop.invariant.2),
)

pub returns : goal.returns
returns g c = λ test t. judged_all (range_good test _) _ 3 _ _ _ _ (c.loop.invariant.1 test t) c.loop-test.false
