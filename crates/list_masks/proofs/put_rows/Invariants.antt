-- By the law of every loop that writes: the masks that are left, written from here, give what all of them give.
use Prim.Native.Nat.{◌-◌, ◌*◌}
use Rattle.buffer.proofs.Going.{Going}
use Rattle.list_transitions.specs.Walk.{trans_from}
use Rattle.list_masks.specs.Masks.{masks_at, flat}
use Rattle.list_masks.specs.Walk.{lows}
use Rattle.list_masks.proofs.put_rows.Given as goal

abbrev pub invariant-loop-i : goal.invariant-loop-i
invariant-loop-i l =
    Going (flat (masks_at (trans_from l.list l.n 0) (lows l.segments l.count 0))) 0 l.initial.out
    (flat (masks_at (trans_from l.list l.n 0) (lows l.segments (l.count - l.i) (2 * l.i)))) l.k l.out
