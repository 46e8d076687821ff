use Rattle.std.proofs.lemmas.Result.{err_from_is_err_and}
use Rattle.list_transitions.proofs.Records.{records}
use Rattle.list_transitions.proofs.read_transitions.Goals as goal

pub loop-at-init : goal.loop-at-init
loop-at-init c = search records

pub returns-then-left-eq0 : goal.returns-then-left-eq0
returns-then-left-eq0 c = search (records, c.in_ok-step.was)

pub returns-then-used-step : goal.returns-then-used-step
returns-then-used-step c = search (records, c.in_ok-step.was)

pub returns-in_err-step : goal.returns-in_err-step
returns-in_err-step c =
    let p = err_from_is_err_and c.from_residual.result c.from_residual.ensures.1 in
    rw (p.1, p.2) (search (records, c.in_err-step.was))

pub loop-at-preserved : goal.loop-at-preserved
loop-at-preserved c = search (records, c.in_ok-step.was)

pub returns : goal.returns
returns c = search records
