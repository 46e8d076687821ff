use Rattle.list_transitions.proofs.Values.{orders}
use Rattle.list_transitions.proofs.in_order.Goals as goal

pub returns-in-Set : goal.returns-in-Set
returns-in-Set c = search orders

pub returns-in-NotSet : goal.returns-in-NotSet
returns-in-NotSet c = search orders

pub returns-in-Atom : goal.returns-in-Atom
returns-in-Atom c = search orders

pub returns-in-Range : goal.returns-in-Range
returns-in-Range c = search orders

pub returns-in-Wildcard : goal.returns-in-Wildcard
returns-in-Wildcard c = search orders
