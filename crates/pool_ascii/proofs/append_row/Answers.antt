-- There is room behind the rows, or nothing is written.
use native.Mathlib.Omega.{arith}
use Rattle.pool_rows.proofs.Answers.{appending-ascii, ascii_put}
use Rattle.pool_ascii.proofs.append_row.Goals as goal

pub returns-then-pool-at-lt128 : goal.returns-then-pool-at-lt128
returns-then-pool-at-lt128 c = search appending-ascii

pub returns : goal.returns
returns c = ascii_put _ _ _ c.requires.within c.requires.size (omega arith) (omega arith) c.copy.ensures
