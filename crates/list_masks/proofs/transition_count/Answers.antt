-- By what the reader of lists answers.
use Rattle.list_masks.proofs.Answers.{counts}
use Rattle.list_masks.proofs.transition_count.Goals as goal

pub returns-in-Ok : goal.returns-in-Ok
returns-in-Ok c = search counts

pub returns-in-Err : goal.returns-in-Err
returns-in-Err c = search counts
