-- The numbers before `at` are 0, the others as they were. The measure is how many are left.
use Rattle.std.proofs.Common.{length, ◌-◌}
use Rattle.buffer.proofs.Overs.{Clearing}
use Rattle.buffer.proofs.clear_blocks.Given as goal

abbrev pub invariant-loop-numbers : goal.invariant-loop-numbers
invariant-loop-numbers g l = Clearing g.T.Number.zero l.initial.numbers l.at l.numbers

abbrev pub decreases-loop-numbers : goal.decreases-loop-numbers
decreases-loop-numbers g l = length l.initial.numbers - l.at
