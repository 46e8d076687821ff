-- The first equal row stands as far behind as it does from here.
use mathlib.Core.List.{◌∷◌}
use Rattle.pool_rows.specs.Pools.{wide}
use Rattle.pool_rows.proofs.Rows.{Finding}
use Rattle.pool_wide.proofs.first_equal.Given as goal

abbrev pub invariant-loop-i : goal.invariant-loop-i
invariant-loop-i l = Finding wide l.pool l.rows (l.count ∷ l.row) l.i l.at
