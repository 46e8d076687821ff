use native.Mathlib.Omega.{arith}
use Rattle.pool_rows.specs.Pools.{wide}
use Rattle.pool_rows.proofs.Rows.{counts, row_within, rows_within, first_here, first_next, first_none}
use Rattle.pool_rows.proofs.Answers.{wide_some, wide_none}
use Rattle.pool_wide.proofs.first_equal.Goals as goal

pub same_at-requires-clause-within : goal.same_at-requires-clause-within
same_at-requires-clause-within c = row_within wide _ _ _ _ (omega arith) c.loop-i.invariant.1

pub returns-then-same_at : goal.returns-then-same_at
returns-then-same_at c =
    wide_some _ _ _ (first_here wide _ _ _ _ _ c.loop-i.invariant.0 c.loop-i-test.true c.same_at.ensures c.if-same_at.true) c.requires.counts c.loop-i-test.true

pub offset_bounds-pool-at : goal.offset_bounds-pool-at
offset_bounds-pool-at c = search counts

pub bounds-pool-at : goal.bounds-pool-at
bounds-pool-at c = search counts

pub row_end-at-requires : goal.row_end-at-requires
row_end-at-requires c = search counts

pub loop-i-preserved : goal.loop-i-preserved
loop-i-preserved c = (
  first_next wide _ _ _ _ _ c.loop-i.invariant.0 c.loop-i-test.true c.same_at.ensures c.if-same_at.false c.row_end-at.ensures,
  rows_within wide _ _ _ _ c.loop-i-test.true c.loop-i.invariant.1 c.row_end-at.ensures,
)

pub returns : goal.returns
returns c = wide_none _ _ _ (first_none wide _ _ _ _ _ c.loop-i.invariant.0 (omega arith) (omega arith)) c.requires.counts (omega arith)
