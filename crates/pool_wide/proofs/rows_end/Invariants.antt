-- The rows that are left end where all of them do, or both ends lie outside.
use Prim.Native.Nat.{◌+◌, ◌-◌, min}
use mathlib.Core.Path.{◌≡◌}
use lib.ListN.{length}
use Rattle.pool_rows.specs.Pools.{wide, after_rows}
use Rattle.pool_wide.proofs.rows_end.Given as goal

abbrev pub invariant-loop : goal.invariant-loop
invariant-loop l =
    min (1 + length l.pool) (after_rows wide l.pool (l.rows - l.counter) l.at) ≡ min (1 + length l.pool) (after_rows wide l.pool l.rows 0)
