use Rattle.room_encode.proofs.Writing.{copying}
use Rattle.room_encode.proofs.write_section.Goals as goal

pub loop-i-init : goal.loop-i-init
loop-i-init c = search copying

pub loop-i-preserved : goal.loop-i-preserved
loop-i-preserved c = search copying

pub returns : goal.returns
returns c = search copying
