-- By the law of every loop that writes: the words that are left, written from here, give what all of them give.
use Rattle.buffer.proofs.Going.{Going}
use Rattle.list_transitions.specs.Walk.{trans_from, Fit}
use Rattle.list_masks.specs.Masks.{mask_of}
use Rattle.list_masks.proofs.put_mask.Given as goal

abbrev pub invariant-loop-left : goal.invariant-loop-left
invariant-loop-left l = Fit l.list l.left l.at × Going (mask_of (trans_from l.list l.n 0) l.point) l.k l.initial.out (mask_of (trans_from l.list l.left l.at) l.point) l.m l.out

abbrev pub decreases-loop-left : goal.decreases-loop-left
decreases-loop-left l = l.left
