use mathlib.Core.Path.{refl}
use Rattle.list_distinct.proofs.Distincts.{find_one, loop_start, loop_hit, loop_turn, loop_done}
use Rattle.list_distinct.proofs.find_mask.Goals as goal

pub returns-then-words-eq1 : goal.returns-then-words-eq1
returns-then-words-eq1 c = find_one c.args.known.now _ _ c.requires c.if-words-eq1.true refl c.find_word.ensures c.unwrap_or.ensures

pub loop-i-init : goal.loop-i-init
loop-i-init c = loop_start _ _ _

pub returns-then-same : goal.returns-then-same
returns-then-same c = loop_hit _ _ _ _ c.loop-i.invariant c.loop-i-test.true c.same.ensures c.if-same.true

pub loop-i-preserved : goal.loop-i-preserved
loop-i-preserved c = loop_turn _ _ _ _ c.loop-i.invariant c.loop-i-test.true c.same.ensures c.if-same.false

pub returns : goal.returns
returns c = loop_done _ _ _ c.loop-i.i c.loop-i.invariant c.loop-i.auto.i-end c.loop-i-test.false
