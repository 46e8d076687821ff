-- The count is there, or the section lists nothing.
use Rattle.rule_walk.proofs.Asking.{listing}
use Rattle.rule_walk.proofs.passing_in.Goals as goal

pub returns-then-words-at : goal.returns-then-words-at
returns-then-words-at c = search listing
