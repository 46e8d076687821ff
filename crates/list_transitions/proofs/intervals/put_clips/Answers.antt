use Rattle.list_transitions.proofs.Puts.{putting-clips}
use Rattle.list_transitions.proofs.intervals.put_clips.Goals as goal

pub loop-i-init : goal.loop-i-init
loop-i-init c = search putting-clips

pub put_span-m-requires : goal.put_span-m-requires
put_span-m-requires c = search putting-clips

pub loop-i-preserved : goal.loop-i-preserved
loop-i-preserved c = search putting-clips

pub returns : goal.returns
returns c = search putting-clips
