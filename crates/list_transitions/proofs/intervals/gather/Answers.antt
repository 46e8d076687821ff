use mathlib.Core.Path.{refl}
use Rattle.list_transitions.proofs.Gathers.{gathering, gather_some, gather_says, gather_room, gather_again}
use Rattle.list_transitions.proofs.intervals.gather.Goals as goal

pub loop-at-init : goal.loop-at-init
loop-at-init c = search gathering

pub size_at-requires : goal.size_at-requires
size_at-requires c = search gathering

pub slice_bounds-read_value-end : goal.slice_bounds-read_value-end
slice_bounds-read_value-end c = search gathering

pub unwrap-value-requires : goal.unwrap-value-requires
unwrap-value-requires c = gather_some _ _ _ _ _ c.loop-at.invariant c.loop-at-test.true c.size_at.ensures.0 refl _ c.read_value.ensures

pub put_ends-n-requires : goal.put_ends-n-requires
put_ends-n-requires c =
    gather_room _ _ _ _ _ c.loop-at.invariant c.loop-at-test.true c.size_at.ensures.0 refl
    (gather_says _ _ _ _ _ c.loop-at.invariant c.loop-at-test.true c.size_at.ensures.0 refl _ c.read_value.ensures c.unwrap-value.ensures)

pub loop-at-preserved : goal.loop-at-preserved
loop-at-preserved c =
    gather_again _ _ _ _ _ c.loop-at.invariant c.loop-at-test.true c.size_at.ensures.0 refl
    (gather_says _ _ _ _ _ c.loop-at.invariant c.loop-at-test.true c.size_at.ensures.0 refl _ c.read_value.ensures c.unwrap-value.ensures)
    c.put_ends-n.ensures

pub returns : goal.returns
returns c = search gathering
