use Prim.Native.Nat.{◌<◌}
use native.Mathlib.Omega.{arith}
use mathlib.Core.Path.{refl}
use borrow.Author.Rules.{rules}
use Rattle.rule_words.proofs.Laws.{striding, passed}
use Rattle.rule_contexts.proofs.contexts_refer_below.Goals as goal

pub returns-then-not-refers_below : goal.returns-then-not-refers_below
returns-then-not-refers_below c = search striding

pub loop-number-preserved : goal.loop-number-preserved
loop-number-preserved c =
    let h : c.loop-number.number < c.args.count = search rules in
    (passed _ _ 3 _ _ _ _ c.loop-number.invariant.0 h c.refers_below.ensures (search rules) refl, omega (arith, c.loop-number.invariant.1))

pub returns : goal.returns
returns c = search striding
