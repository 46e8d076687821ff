-- Each whole record leaves fewer bytes.
use Rattle.std.proofs.Common.{◌-◌, ◌≤◌, length}
use Rattle.replay_rows.proofs.replay.Given as goal

abbrev pub invariant-loop-bytes : goal.invariant-loop-bytes
invariant-loop-bytes l = l.at ≤ length l.sample

abbrev pub decreases-loop-bytes : goal.decreases-loop-bytes
decreases-loop-bytes l = length l.sample - l.at
