-- By the law of every loop that puts numbers.
use Rattle.buffer.proofs.Going.{Going}
use Rattle.replay_io.specs.Bytes.{numbers}
use Rattle.replay_io.proofs.Putting.{left}
use Rattle.replay_io.proofs.read.put_halves.Given as goal

abbrev pub invariant-loop-i : goal.invariant-loop-i
invariant-loop-i l = Going (numbers 2 l.n l.bytes) 0 l.initial.out (left 2 l.n l.bytes l.i) l.i l.out
