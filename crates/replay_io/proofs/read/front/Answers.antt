-- The bytes that are there, over zeros.
use Rattle.replay_io.proofs.Reading.{padded-is}
use Rattle.replay_io.proofs.read.front.Goals as goal

pub returns : goal.returns
returns g c = rw (c.copy_from_slice.ensures.after, c.part-there.ensures.bytes) (padded-is g.row.N _)
