use Rattle.list_transitions.specs.Bytes.{shape_of}
use Rattle.list_transitions.proofs.Pairs.{cases}
use Rattle.list_transitions.proofs.shape.Goals as goal

pub returns-in-1 : goal.returns-in-1
unfolding shape_of
returns-in-1 c = search cases

pub returns-in-2 : goal.returns-in-2
unfolding shape_of
returns-in-2 c = search cases

pub returns-in-3 : goal.returns-in-3
unfolding shape_of
returns-in-3 c = search cases

pub returns-in-4 : goal.returns-in-4
unfolding shape_of
returns-in-4 c = search cases

pub returns-in-5 : goal.returns-in-5
unfolding shape_of
returns-in-5 c = search cases

pub returns-in_default : goal.returns-in_default
unfolding shape_of
returns-in_default c = search cases
