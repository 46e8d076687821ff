use Rattle.std.proofs.Common.{sym}
use Rattle.replay_io.proofs.Reading.{half-is}
use Rattle.replay_io.proofs.read.half.Goals as goal

pub returns : goal.returns
returns c = rw (c.from_le_bytes.ensures, c.front.ensures) (sym (half-is _))
