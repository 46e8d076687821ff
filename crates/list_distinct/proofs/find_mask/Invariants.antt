-- The place among the masks that are left, behind those passed, is the place among all.
use Prim.Native.Nat.{◌+◌, ◌*◌, ◌-◌}
use mathlib.Core.Path.{◌≡◌}
use lib.ListN.{length, drop}
use Rattle.list_masks.specs.Masks.{index}
use Rattle.list_distinct.specs.Walk.{chunks}
use Rattle.list_distinct.proofs.find_mask.Given as goal

abbrev pub invariant-loop-i : goal.invariant-loop-i
invariant-loop-i l =
    l.i + index (chunks (l.d - l.i) (length l.mask) (drop (l.i * length l.mask) l.known)) l.mask ≡ index (chunks l.d (length l.mask) l.known) l.mask
