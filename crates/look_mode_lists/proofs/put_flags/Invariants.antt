-- By the law of every loop that writes: the flags that are left, written from here, give what all of them give.
use mathlib.Core.List.{map}
use lib.ListN.{drop}
use Rattle.buffer.proofs.Going.{Going}
use Rattle.look_mode_lists.specs.Flags.{flag}
use Rattle.look_mode_lists.proofs.put_flags.Given as goal

abbrev pub invariant-loop-start : goal.invariant-loop-start
invariant-loop-start l = Going (map flag l.starts) 0 l.initial.out (map flag (drop l.start-index l.starts)) l.m l.out
