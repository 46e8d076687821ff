use native.Mathlib.Omega.{arith}
use Rattle.row_build.proofs.Parting.{targeting, ascii_turn, ascii_done}
use Rattle.row_build.proofs.Segments.put_ascii.Goals as goal

pub loop-k-init : goal.loop-k-init
loop-k-init c = search targeting

pub put_targets-m-requires-clause-order : goal.put_targets-m-requires-clause-order
put_targets-m-requires-clause-order c = search targeting

pub loop-k-preserved : goal.loop-k-preserved
loop-k-preserved c = ascii_turn _ _ _ _ _ c.loop-k.invariant c.loop-k-test.true c.target_at-target.ensures c.put_targets-m.ensures

pub returns : goal.returns
returns c = ascii_done _ _ _ _ _ c.loop-k.invariant (omega arith) (c.fill.ensures.after (λ y e. e))
