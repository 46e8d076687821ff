-- By the law of every loop that writes: the targets of the segments that are left, from m on, give what all of them give.
use lib.ListN.{length}
use Rattle.row_build.proofs.Parting.{Filling}
use Rattle.row_build.proofs.Segments.put_ascii.Given as goal

abbrev pub invariant-loop-k : goal.invariant-loop-k
invariant-loop-k l = Filling l.self.targets.now l.self.points.now l.self.places.now (length l.self.places.now) l.initial.out l.k l.m l.out
