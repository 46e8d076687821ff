use Rattle.std.proofs.Common.{sym}
use Rattle.replay_io.proofs.Reading.{word-is}
use Rattle.replay_io.proofs.read.word.Goals as goal

pub returns : goal.returns
returns c = rw (c.from_le_bytes.ensures, c.front.ensures) (sym (word-is _))
