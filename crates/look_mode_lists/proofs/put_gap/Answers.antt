-- A compiled mode gets its difference, another none.
use Rattle.look_mode_lists.proofs.Gaps.{stepping}
use Rattle.look_mode_lists.proofs.put_gap.Goals as goal

pub offset_bounds-out-m : goal.offset_bounds-out-m
offset_bounds-out-m c = search stepping

pub bounds-out-m : goal.bounds-out-m
bounds-out-m c = search stepping

pub overflow_add-result : goal.overflow_add-result
overflow_add-result c = search stepping

pub shape_of-out-then-last-le65535 : goal.shape_of-out-then-last-le65535
shape_of-out-then-last-le65535 c = search stepping

pub returns-then-last-le65535 : goal.returns-then-last-le65535
returns-then-last-le65535 c = search stepping

pub returns : goal.returns
returns c = search stepping
