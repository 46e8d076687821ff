-- By the law of every loop that writes: the ends that are left, written from here, give what all of them give.
use Rattle.buffer.proofs.Going.{Going}
use Rattle.list_transitions.specs.Intervals.{clips, ends}
use Rattle.list_transitions.specs.Bytes.{pairs_in}
use Rattle.list_transitions.proofs.Pairs.{pairs_from}
use Rattle.list_transitions.proofs.intervals.put_clips.Given as goal

abbrev pub invariant-loop-i : goal.invariant-loop-i
invariant-loop-i l = Going (ends (clips (pairs_in l.pairs))) l.n l.initial.out (ends (clips (pairs_from l.pairs l.i))) l.m l.out
