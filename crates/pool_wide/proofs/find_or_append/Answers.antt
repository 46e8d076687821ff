-- The first equal row is one of those that stand, or there is none.
use Rattle.pool_rows.proofs.Answers.{answering-wide}
use Rattle.pool_wide.proofs.find_or_append.Goals as goal

pub returns-in-Some : goal.returns-in-Some
returns-in-Some c = search answering-wide

pub returns-in-None : goal.returns-in-None
returns-in-None c = search answering-wide
