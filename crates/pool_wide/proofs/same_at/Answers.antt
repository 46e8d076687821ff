-- The counts are equal, and the ranges behind them; or one of them is not.
use Rattle.pool_rows.proofs.Rows.{comparing-wide}
use Rattle.pool_wide.proofs.same_at.Goals as goal

pub returns-then-pool-at : goal.returns-then-pool-at
returns-then-pool-at c = search comparing-wide

pub returns-else-pool-at : goal.returns-else-pool-at
returns-else-pool-at c = search comparing-wide
