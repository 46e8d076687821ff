-- A compiled mode is the one that the last waited for.
use Rattle.look_mode_lists.proofs.Gaps.{stepping}
use Rattle.look_mode_lists.proofs.put_step.Goals as goal

pub put_gap-requires : goal.put_gap-requires
put_gap-requires c = search stepping

pub shape_of-out-then-x-le65535 : goal.shape_of-out-then-x-le65535
shape_of-out-then-x-le65535 c = search stepping

pub returns-then-x-le65535 : goal.returns-then-x-le65535
returns-then-x-le65535 c = search stepping

pub returns : goal.returns
returns c = search stepping
