use Rattle.list_masks.proofs.Columns.{columning}
use Rattle.list_masks.proofs.put_columns.Goals as goal

pub loop-i-init : goal.loop-i-init
loop-i-init c = search columning

pub skip-at-requires : goal.skip-at-requires
skip-at-requires c = search columning

pub record_at-requires : goal.record_at-requires
record_at-requires c = search columning

pub add_column-requires : goal.add_column-requires
add_column-requires c = search columning

pub loop-i-preserved : goal.loop-i-preserved
loop-i-preserved c = search columning

pub returns : goal.returns
returns c = search columning
