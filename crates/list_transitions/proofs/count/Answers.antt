use Rattle.list_transitions.proofs.Values.{counted-by-kind}
use Rattle.list_transitions.proofs.count.Goals as goal

pub returns-in-Atom : goal.returns-in-Atom
returns-in-Atom c = search counted-by-kind

pub returns-in-Range : goal.returns-in-Range
returns-in-Range c = search counted-by-kind

pub returns-in-Set : goal.returns-in-Set
returns-in-Set c = search counted-by-kind

pub returns-in-NotSet : goal.returns-in-NotSet
returns-in-NotSet c = search counted-by-kind

pub returns-in-Wildcard : goal.returns-in-Wildcard
returns-in-Wildcard c = search counted-by-kind
