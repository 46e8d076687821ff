-- The buffer is cleared, and filled where the list is accepted.
use Rattle.std.proofs.lemmas.Result.{err_from_is_err_and}
use Rattle.list_transitions.proofs.Gathers.{reading, read_is}
use Rattle.list_transitions.proofs.read_intervals.Goals as goal

pub returns-then-out-lt-ENDS : goal.returns-then-out-lt-ENDS
returns-then-out-lt-ENDS c = search reading

pub gather-requires-clause-good : goal.gather-requires-clause-good
gather-requires-clause-good c = read_is _ _ c.in_ok-answer.ensures

pub returns-in_err-answer : goal.returns-in_err-answer
returns-in_err-answer c =
    let p = err_from_is_err_and c.from_residual.result c.from_residual.ensures.1 in
    rw (p.1, p.2) (search (reading, c.in_err-answer.ensures))

pub returns : goal.returns
returns c = search (reading, c.in_ok-answer.ensures)
