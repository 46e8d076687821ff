use Rattle.look_mode_lists.proofs.Flags.{answers}
use Rattle.look_mode_lists.proofs.compiled_mode_flags.Goals as goal

pub overflow_add-modes : goal.overflow_add-modes
overflow_add-modes c = search answers

pub offset_bounds-room-modes : goal.offset_bounds-room-modes
offset_bounds-room-modes c = search answers

pub slice_bounds-flags_into-end : goal.slice_bounds-flags_into-end
slice_bounds-flags_into-end c = search answers

pub returns-in-Ok : goal.returns-in-Ok
returns-in-Ok c = search answers

pub returns-in-Err : goal.returns-in-Err
returns-in-Err c = search answers
