-- The tests are the definition's, in order.
use Rattle.room_judge.proofs.Filled.{filling}
use Rattle.room_judge.proofs.laid.Laid.is_filled.Goals as goal

pub returns-then-not-counts_stand : goal.returns-then-not-counts_stand
returns-then-not-counts_stand c = search filling

pub offset_bounds-self-n : goal.offset_bounds-self-n
offset_bounds-self-n c = search filling

pub slice_bounds-are_zero-count : goal.slice_bounds-are_zero-count
slice_bounds-are_zero-count c = search filling

pub slice_bounds-are_zero-start : goal.slice_bounds-are_zero-start
slice_bounds-are_zero-start c = search filling

pub returns-in-Some : goal.returns-in-Some
returns-in-Some c = search filling

pub returns-in-None : goal.returns-in-None
returns-in-None c = search filling
