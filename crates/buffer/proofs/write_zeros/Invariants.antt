-- The numbers before the index are 0, the others as they were.
use Rattle.buffer.proofs.Overs.{Clearing}
use Rattle.buffer.proofs.write_zeros.Given as goal

abbrev pub invariant-loop-number : goal.invariant-loop-number
invariant-loop-number g l = Clearing g.T.Number.zero l.initial.numbers l.number-index l.numbers
