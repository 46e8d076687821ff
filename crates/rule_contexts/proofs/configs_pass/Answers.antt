-- Each answer is the case of the walk that the tests on the way say, for whatever test the closure makes.
use Prim.Native.Nat.{◌<◌, ◌^◌}
use mathlib.Core.Path.{◌≡◌}
use mathlib.Core.Bool.{true, false}
use borrow.Author.Rules.{rules}
use Rattle.word_reader.specs.Records.{config_at}
use Rattle.rule_words.proofs.Laws.{section_past, rest_first, read_on, read_failed, read_lost, read_all}
use Rattle.rule_contexts.proofs.Tests.{inside}
use Rattle.rule_contexts.proofs.configs_pass.Goals as goal

pub returns-then-words-at : goal.returns-then-words-at
returns-then-words-at g c = λ test t. section_past config_at _ _ test c.if-words-at.true

pub loop-init : goal.loop-init
loop-init g c = (c.requires, λ test t. rest_first config_at test _ _)

pub returns-in_default : goal.returns-in_default
returns-in_default g c = λ test t. read_lost test _ _ _ _ (c.loop.invariant.1 test t) c.loop-test.true c.in_default.ensures

pub returns-then-not-passes : goal.returns-then-not-passes
returns-then-not-passes g c = λ test t.
    let l : c.loop.here < 2 ^ 64 = search (rules, inside _ _ c.in-Ok.ensures) in
    let p : false ≡ test c.loop.here = t c.loop.here false l c.if-not-passes.ensures in
    read_failed test _ _ _ _ (c.loop.invariant.1 test t) c.loop-test.true p

pub loop-preserved : goal.loop-preserved
loop-preserved g c = (
  c.requires,
  λ test t.
      let l : c.loop.here < 2 ^ 64 = search (rules, inside _ _ c.in-Ok.ensures) in
      let p : true ≡ test c.loop.here = t c.loop.here true l c.if-not-passes.ensures in
      read_on test _ _ _ _ (c.loop.invariant.1 test t) c.loop-test.true c.in-Ok.ensures p,
)

pub returns : goal.returns
returns g c = λ test t. read_all test _ _ _ _ (c.loop.invariant.1 test t) c.loop-test.false
