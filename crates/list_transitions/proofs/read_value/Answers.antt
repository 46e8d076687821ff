use Rattle.list_transitions.proofs.Values.{values}
use Rattle.list_transitions.proofs.read_value.Goals as goal

pub number_at-requires : goal.number_at-requires
number_at-requires c = search values

pub number_at-requires-in-2 : goal.number_at-requires-in-2
number_at-requires-in-2 c = search values

pub number_at-requires-in-2-2 : goal.number_at-requires-in-2-2
number_at-requires-in-2-2 c = search values

pub returns-in-1 : goal.returns-in-1
returns-in-1 c = search values

pub returns-in-2 : goal.returns-in-2
returns-in-2 c = search values

pub returns-in-3 : goal.returns-in-3
returns-in-3 c = search values

pub returns-in-4 : goal.returns-in-4
returns-in-4 c = search values

pub returns-in_default : goal.returns-in_default
returns-in_default c = search values
