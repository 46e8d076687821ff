-- Where the bits of all so far are 0, so are the numbers before the index.
use Rattle.std.proofs.Common.{◌≡◌, replicate, take, ◌≤◌, length}
use Rattle.buffer.proofs.is_clear.Given as goal

abbrev pub invariant-loop-number : goal.invariant-loop-number
invariant-loop-number g l = (l.number-index ≤ length l.block) × (l.all ≡ g.T.Number.zero → take l.number-index l.block ≡ replicate l.number-index g.T.Number.zero)
