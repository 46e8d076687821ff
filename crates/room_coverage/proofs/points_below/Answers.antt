use borrow.Author.Rules.{rules}
use Rattle.room_coverage.proofs.Laws.{below_is}
use Rattle.room_coverage.proofs.points_below.Goals as goal

pub returns : goal.returns
returns c = search (rules, below_is)
