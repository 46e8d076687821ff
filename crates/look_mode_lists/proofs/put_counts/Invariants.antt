-- By the law of every loop that writes: the counts that are left, written from here, give what all of them give.
use lib.ListN.{drop}
use Rattle.buffer.proofs.Going.{Going}
use Rattle.look_mode_lists.specs.Counts.{counts_of}
use Rattle.look_mode_lists.proofs.Gaps.{gaps_from}
use Rattle.look_mode_lists.proofs.put_counts.Given as goal

abbrev pub invariant-loop-start : goal.invariant-loop-start
invariant-loop-start l = Going (counts_of l.states l.starts) 0 l.initial.out (gaps_from l.states l.last (drop l.start-index l.starts)) l.m l.out
