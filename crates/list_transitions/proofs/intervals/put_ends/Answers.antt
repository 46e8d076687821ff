use Rattle.list_transitions.proofs.Puts.{put-value}
use Rattle.list_transitions.proofs.intervals.put_ends.Goals as goal

pub put_span-requires : goal.put_span-requires
put_span-requires c = search put-value

pub put_span-requires-in-Range : goal.put_span-requires-in-Range
put_span-requires-in-Range c = search put-value

pub put_clips-requires : goal.put_clips-requires
put_clips-requires c = search put-value

pub put_gaps-requires : goal.put_gaps-requires
put_gaps-requires c = search put-value

pub put_span-requires-in-Wildcard : goal.put_span-requires-in-Wildcard
put_span-requires-in-Wildcard c = search put-value

pub returns-in-Atom : goal.returns-in-Atom
returns-in-Atom c = search put-value

pub returns-in-Range : goal.returns-in-Range
returns-in-Range c = search put-value

pub returns-in-Set : goal.returns-in-Set
returns-in-Set c = search put-value

pub returns-in-NotSet : goal.returns-in-NotSet
returns-in-NotSet c = search put-value

pub returns-in-Wildcard : goal.returns-in-Wildcard
returns-in-Wildcard c = search put-value
