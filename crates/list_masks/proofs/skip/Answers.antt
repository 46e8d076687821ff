use native.Mathlib.Omega.{arith}
use Rattle.list_masks.proofs.Words.{skips, skip_size, skip_value}
use Rattle.list_masks.proofs.skip.Goals as goal

pub overflow_add-here : goal.overflow_add-here
overflow_add-here c = omega (arith, skip_size _ _ _ _ c.loop-test.true c.loop.invariant.0)

pub overflow_add-here-in-loop : goal.overflow_add-here-in-loop
overflow_add-here-in-loop c = omega (arith, skip_size _ _ _ _ c.loop-test.true c.loop.invariant.0)

pub size_at-requires : goal.size_at-requires
size_at-requires c = skip_size _ _ _ _ c.loop-test.true c.loop.invariant.0

pub overflow_add-here-in-loop-2 : goal.overflow_add-here-in-loop-2
overflow_add-here-in-loop-2 c = omega (arith, skip_value _ _ _ _ c.loop-test.true c.size_at.ensures.0 c.loop.invariant.0)

pub loop-preserved : goal.loop-preserved
loop-preserved c = search skips

pub returns : goal.returns
returns c = search skips
