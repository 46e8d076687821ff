use Prim.Native.Nat.{◌<◌}
use Rattle.list_masks.proofs.Puts.{masking, mask_rest, mask_turn}
use Rattle.list_masks.proofs.put_mask.Goals as goal

pub word_of-requires : goal.word_of-requires
word_of-requires c = search masking

pub bounds-out-m : goal.bounds-out-m
bounds-out-m c = search masking

pub skip-at-requires : goal.skip-at-requires
skip-at-requires c = search masking

pub loop-left-preserved : goal.loop-left-preserved
loop-left-preserved c =
    let l = c.loop-left in
    let some : 0 < l.left = c.loop-left-test.true in (
      mask_rest _ _ _ 0 some c.min-few.ensures c.skip-at.ensures l.invariant.0,
      mask_turn _ _ _ _ some c.min-few.ensures _ _ _ _ _ l.invariant.1 c.word_of.ensures c.skip-at.ensures,
    )

pub returns : goal.returns
returns c = search masking
