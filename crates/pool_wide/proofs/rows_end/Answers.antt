use native.Mathlib.Omega.{arith}
use Rattle.pool_rows.proofs.Rows.{ending, end_next, end_done}
use Rattle.pool_wide.proofs.rows_end.Goals as goal

pub returns-then-pool-at : goal.returns-then-pool-at
returns-then-pool-at c = search ending

pub loop-preserved : goal.loop-preserved
loop-preserved c = end_next _ _ _ _ c.loop.invariant (omega arith) c.row_end-at.ensures

pub returns : goal.returns
returns c = end_done _ _ _ _ c.loop.invariant (omega arith)
