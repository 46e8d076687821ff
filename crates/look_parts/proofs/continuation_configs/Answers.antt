-- The part that the span says.
use Rattle.look_parts.proofs.Laws.{parting}
use Rattle.look_parts.proofs.continuation_configs.Goals as goal

pub continuation_configs_span-requires : goal.continuation_configs_span-requires
continuation_configs_span-requires c = search parting

pub part-requires : goal.part-requires
part-requires c = search parting

pub returns : goal.returns
returns c = search parting
