use Rattle.look_mode_lists.proofs.Answers.{answers}
use Rattle.look_mode_lists.specs.Counts.{asked}
use Rattle.look_mode_lists.proofs.mode_state_counts.Goals as goal

pub returns-in-Ok : goal.returns-in-Ok
returns-in-Ok c = search answers

pub returns-in-Err-Absent : goal.returns-in-Err-Absent
unfolding asked
returns-in-Err-Absent c = search answers

pub returns-in-Err-Outside : goal.returns-in-Err-Outside
unfolding asked
returns-in-Err-Outside c = search answers
