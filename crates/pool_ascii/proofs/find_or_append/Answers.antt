-- The first equal row is one of those that stand, or there is none.
use Rattle.pool_rows.proofs.Answers.{answering-ascii}
use Rattle.pool_ascii.proofs.find_or_append.Goals as goal

pub returns-in-Some : goal.returns-in-Some
returns-in-Some c = search answering-ascii

pub returns-in-None : goal.returns-in-None
returns-in-None c = search answering-ascii
