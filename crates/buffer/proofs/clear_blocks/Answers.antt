use Rattle.std.proofs.Common.{rules}
use Rattle.buffer.proofs.Overs.{clear_block, clear_rest, part_length}
use Rattle.buffer.proofs.clear_blocks.Goals as goal

pub loop-numbers-preserved : goal.loop-numbers-preserved
loop-numbers-preserved g c = let z = g.T.Number.zero in search (rules, clear_block z, part_length z)

pub returns : goal.returns
returns g c = search (rules, clear_rest g.T.Number.zero)
