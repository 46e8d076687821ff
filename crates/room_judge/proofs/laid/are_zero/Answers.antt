use Rattle.room_judge.proofs.Comparing.{emptying}
use Rattle.room_judge.proofs.laid.are_zero.Goals as goal

pub loop-x-preserved : goal.loop-x-preserved
loop-x-preserved c = search emptying

pub returns : goal.returns
returns c = search emptying
