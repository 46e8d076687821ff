-- The masks are written over zeros.
use Rattle.list_masks.proofs.Answers.{filling}
use Rattle.list_masks.proofs.fill_masks.Goals as goal

pub put_masks-requires : goal.put_masks-requires
put_masks-requires c = record { sound = search filling; points = search filling; room = search filling; empty = search filling }

pub overflow_add-result : goal.overflow_add-result
overflow_add-result c = search filling

pub returns : goal.returns
returns c = search filling
