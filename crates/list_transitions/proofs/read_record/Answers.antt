-- The record is there, or the input ends.
use Rattle.list_transitions.proofs.Records.{judging}
use Rattle.list_transitions.proofs.read_record.Goals as goal

pub returns-then-left-lt3 : goal.returns-then-left-lt3
returns-then-left-lt3 c = search judging

pub returns-then-left-size : goal.returns-then-left-size
returns-then-left-size c = search judging

pub returns : goal.returns
returns c = search judging
