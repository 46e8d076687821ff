use Rattle.look_mode_lists.proofs.Flags.{flagging}
use Rattle.look_mode_lists.proofs.put_flags.Goals as goal

pub loop-start-preserved : goal.loop-start-preserved
loop-start-preserved c = search flagging

pub returns : goal.returns
returns c = search flagging
