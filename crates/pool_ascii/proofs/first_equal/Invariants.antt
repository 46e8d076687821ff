-- The first equal row stands as far behind as it does from here.
use Prim.Native.Nat.{◌*◌}
use Rattle.pool_rows.specs.Pools.{ascii}
use Rattle.pool_rows.proofs.Rows.{Finding}
use Rattle.pool_ascii.proofs.first_equal.Given as goal

abbrev pub invariant-loop-i : goal.invariant-loop-i
invariant-loop-i l = Finding ascii l.pool l.rows l.row l.i (l.i * 128)
