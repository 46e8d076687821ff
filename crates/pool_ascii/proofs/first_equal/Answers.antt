use mathlib.Core.Path.{refl}
use native.Mathlib.Omega.{arith}
use Rattle.pool_rows.specs.Pools.{ascii}
use Rattle.pool_rows.proofs.Rows.{find_start, ascii_here, ascii_next, first_none}
use Rattle.pool_rows.proofs.Answers.{ascii_within, equal_some, equal_none}
use Rattle.pool_ascii.proofs.first_equal.Goals as goal

pub loop-i-init : goal.loop-i-init
loop-i-init c = find_start ascii _ _ _ (ascii_within _ _ c.requires.within) (omega arith)

pub returns-then-eq : goal.returns-then-eq
returns-then-eq c =
    equal_some ascii _ _ _ (ascii_here _ _ _ _ c.loop-i.invariant c.loop-i-test.true c.eq.ensures refl c.if-eq.true) c.loop-i-test.true

pub loop-i-preserved : goal.loop-i-preserved
loop-i-preserved c = ascii_next _ _ _ _ c.loop-i.invariant c.loop-i-test.true c.eq.ensures refl c.if-eq.false

pub returns : goal.returns
returns c = equal_none ascii _ _ _ (first_none ascii _ _ _ _ _ c.loop-i.invariant.0 (omega arith) (omega arith)) (omega arith)
