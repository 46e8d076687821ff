-- By the law of every loop that writes: what is left, joined to the range that is held, gives what all of it gives.
use lib.ListN.{length}
use Rattle.row_build.proofs.Joining.{Joining}
use Rattle.row_build.proofs.Segments.put_joined.Given as goal

abbrev pub invariant-loop-k : goal.invariant-loop-k
invariant-loop-k l =
    Joining l.escape l.self.targets.now l.self.continuations.now l.self.points.now l.self.places.now (length l.self.places.now) l.initial.out
    l.held.low l.held.high l.held.goal l.k l.m l.out
