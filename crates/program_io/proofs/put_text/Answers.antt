use Rattle.program_io.proofs.Shows.{texts}
use Rattle.program_io.proofs.put_text.Goals as goal

pub loop-byte-preserved : goal.loop-byte-preserved
loop-byte-preserved c = search texts

pub returns : goal.returns
returns c = search texts
