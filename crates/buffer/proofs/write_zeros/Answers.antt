use Rattle.std.proofs.Common.{rules}
use Rattle.buffer.proofs.Overs.{clear_turn}
use Rattle.buffer.proofs.write_zeros.Goals as goal

pub loop-number-preserved : goal.loop-number-preserved
loop-number-preserved g c = rw c.zero.ensures (search (rules, clear_turn g.T.Number.zero))
