use Rattle.row_build.proofs.Joining.{joining, join_grow, join_turn}
use Rattle.row_build.proofs.Segments.put_joined.Goals.{then-touches, else-touches}
use Rattle.row_build.proofs.Segments.put_joined.Goals as goal

pub loop-k-init : goal.loop-k-init
loop-k-init c = search joining

pub loop-k-preserved : goal.loop-k-preserved
loop-k-preserved c =
    elim c.if-touches.branch [
      | then-touches w ↦ rw (w.out-is, w.held-is, w.m-is) (join_grow _ _ _ _ _ _ _ c.loop-k.invariant c.loop-k-test.true c.goal_of.ensures c.touches.ensures w.if-touches.true)
      | else-touches w ↦ rw (w.out-is, w.held-is, w.m-is) (join_turn _ _ _ _ _ _ _ c.loop-k.invariant c.loop-k-test.true c.goal_of.ensures c.touches.ensures w.if-touches.false w.put-m.ensures)
    ]

pub returns : goal.returns
returns c = search joining
