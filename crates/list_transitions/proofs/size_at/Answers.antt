-- Two bytes, the lesser first.
use Rattle.std.proofs.Common.{arith}
use Rattle.list_transitions.specs.Bytes.{size_at}
use Rattle.list_transitions.proofs.size_at.Goals as goal

pub returns : goal.returns
unfolding size_at
returns c = (omega (arith, c.from.ensures, c.from_le_bytes.ensures), omega (arith, c.from.ensures, c.from_le_bytes.type_inv))
