-- The numbers that are left, from here, give what all give.
use mathlib.Core.Path.{◌≡◌}
use mathlib.Core.Bool.{◌&&◌}
use lib.Dec.{eqb}
use lib.ListN.{drop}
use Rattle.refusal.specs.Lists.{every}
use Rattle.room_judge.proofs.laid.are_zero.Given as goal

abbrev pub invariant-loop-x : goal.invariant-loop-x
invariant-loop-x l = l.zero && every (λ n. eqb n 0) (drop l.x-index l.numbers) ≡ every (λ n. eqb n 0) l.numbers
