use Rattle.list_transitions.proofs.Puts.{putting-gaps}
use Rattle.list_transitions.proofs.intervals.put_gaps.Goals as goal

pub loop-i-init : goal.loop-i-init
loop-i-init c = search putting-gaps

pub put_span-m-requires : goal.put_span-m-requires
put_span-m-requires c = search putting-gaps

pub loop-i-preserved : goal.loop-i-preserved
loop-i-preserved c = search putting-gaps

pub put_span-requires : goal.put_span-requires
put_span-requires c = search putting-gaps

pub returns : goal.returns
returns c = search putting-gaps
