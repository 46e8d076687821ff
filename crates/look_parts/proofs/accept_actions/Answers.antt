-- The part that the span says.
use Rattle.look_parts.proofs.Laws.{parting}
use Rattle.look_parts.proofs.accept_actions.Goals as goal

pub accept_actions_span-requires : goal.accept_actions_span-requires
accept_actions_span-requires c = search parting

pub part-requires : goal.part-requires
part-requires c = search parting

pub returns : goal.returns
returns c = search parting
