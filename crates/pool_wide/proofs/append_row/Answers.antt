-- There is room behind the rows, or nothing is written.
use native.Mathlib.Omega.{arith}
use Rattle.pool_rows.proofs.Answers.{appending-wide, wide_put}
use Rattle.pool_wide.proofs.append_row.Goals as goal

pub returns-then-pool-end : goal.returns-then-pool-end
returns-then-pool-end c = search appending-wide

pub returns : goal.returns
returns c = wide_put _ _ _ c.requires.ends c.requires.counts c.requires.within (omega arith) (omega arith) c.copy.ensures
