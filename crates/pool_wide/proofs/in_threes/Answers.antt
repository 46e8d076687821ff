use mathlib.Core.Path.{◌∙◌}
use native.Mathlib.Omega.{arith}
use Rattle.pool_rows.proofs.Rows.{three_turn, three_stop, three_left, three_done}
use Rattle.pool_wide.proofs.in_threes.Goals as goal

pub returns-then-range-gt65535 : goal.returns-then-range-gt65535
returns-then-range-gt65535 c =
    let s = c.in-Some.ensures.steps in
    three_stop _ _ s.1.0 (s.1.1 ∙ c.loop-range.invariant.0) c.loop-range.invariant.2 c.if-range-gt65535.true

pub loop-range-preserved : goal.loop-range-preserved
loop-range-preserved c =
    let s = c.in-Some.ensures.steps in
    let three = s.1.1 ∙ c.loop-range.invariant.0 in (
      s.0 ∙ c.loop-range.invariant.0,
      tt,
      three_turn _ _ s.1.0 three c.loop-range.invariant.2 c.if-range-gt65535.false,
      three_left _ _ s.1.0 three c.loop-range.invariant.3,
    )

pub returns : goal.returns
returns c =
    let i = c.loop-range.invariant in
    three_done _ _ i.2 (omega (arith, c.in-None.ensures.steps.1.0, i.0)) i.3
