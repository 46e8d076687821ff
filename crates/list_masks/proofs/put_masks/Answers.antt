-- One word each, or more.
use Rattle.list_masks.proofs.Columns.{choosing}
use Rattle.list_masks.proofs.put_masks.Goals as goal

pub put_columns-requires : goal.put_columns-requires
put_columns-requires c = record { sound = search choosing; few = search choosing; points = search choosing; room = search choosing; empty = search choosing }
