use Rattle.run_class.proofs.Classes.{seeing}
use Rattle.run_class.proofs.see_range.Goals as goal

pub loop-byte-preserved : goal.loop-byte-preserved
loop-byte-preserved c = search seeing

pub returns : goal.returns
returns c = search seeing

pub returns-2 : goal.returns-2
returns-2 c = search seeing
