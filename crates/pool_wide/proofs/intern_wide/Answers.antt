-- Each answer is the case that the tests on the way say.
use native.Mathlib.Omega.{arith}
use Rattle.pool_rows.proofs.Answers.{answering-wide, wide_length, wide_into, wide_many}
use Rattle.pool_wide.proofs.intern_wide.Goals as goal

pub returns-then-pool-end : goal.returns-then-pool-end
returns-then-pool-end c = search answering-wide

pub returns-then-not-in_threes : goal.returns-then-not-in_threes
returns-then-not-in_threes c = search answering-wide

pub find_or_append-requires-clause-size : goal.find_or_append-requires-clause-size
find_or_append-requires-clause-size c = omega (arith, wide_length _ c.in_threes.ensures c.if-not-in_threes.false, c.in-Ok.ensures.1)

pub returns-in-Ok : goal.returns-in-Ok
returns-in-Ok c =
    wide_into _ _ _ c.rows_end-end.ensures (omega arith) c.in_threes.ensures c.if-not-in_threes.false (omega (arith, c.in-Ok.ensures.0))
    c.find_or_append.ensures

pub returns-in-Err : goal.returns-in-Err
returns-in-Err c =
    wide_many _ _ _ c.rows_end-end.ensures (omega arith) c.in_threes.ensures c.if-not-in_threes.false (omega (arith, c.in-Err.ensures))
    c.refuse-in-Err.ensures
