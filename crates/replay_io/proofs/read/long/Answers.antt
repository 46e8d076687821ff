use Rattle.std.proofs.Common.{sym}
use Rattle.replay_io.proofs.Reading.{long-is}
use Rattle.replay_io.proofs.read.long.Goals as goal

pub returns : goal.returns
returns c = rw (c.from_le_bytes.ensures, c.front.ensures) (sym (long-is _))
