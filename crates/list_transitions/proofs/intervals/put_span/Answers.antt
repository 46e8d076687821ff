-- One interval is written, or none.
use Rattle.list_transitions.proofs.Puts.{spans}
use Rattle.list_transitions.proofs.intervals.put_span.Goals as goal

pub bounds-out-n : goal.bounds-out-n
bounds-out-n c = search spans

pub bounds-out-n-2 : goal.bounds-out-n-2
bounds-out-n-2 c = search spans

pub returns-in_default : goal.returns-in_default
returns-in_default c = search spans

pub returns : goal.returns
returns c = search spans
