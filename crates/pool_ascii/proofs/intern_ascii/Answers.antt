-- Each answer is the case that the tests on the way say.
use Rattle.pool_rows.proofs.Answers.{answering-ascii}
use Rattle.pool_ascii.proofs.intern_ascii.Goals as goal

pub returns-then-pool-rows : goal.returns-then-pool-rows
returns-then-pool-rows c = search answering-ascii

pub returns-then-row-ne128 : goal.returns-then-row-ne128
returns-then-row-ne128 c = search answering-ascii

pub returns : goal.returns
returns c = search answering-ascii
