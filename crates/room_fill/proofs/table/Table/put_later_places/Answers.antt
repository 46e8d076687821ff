-- The places of three kinds of record are written one behind the other.
use Rattle.room_fill.proofs.Parts.{three_put}
use Rattle.word_layout.proofs.Found.{accepts_there, escapes_there, continuations_there}
use Rattle.room_fill.proofs.table.Table.put_later_places.Goals as goal

pub put_record_places-a-requires-clause-within : goal.put_record_places-a-requires-clause-within
put_record_places-a-requires-clause-within c = accepts_there _ c.args.self.now.found

pub put_record_places-b-requires-clause-within : goal.put_record_places-b-requires-clause-within
put_record_places-b-requires-clause-within c = escapes_there _ c.args.self.now.found

pub put_record_places-requires-clause-within : goal.put_record_places-requires-clause-within
put_record_places-requires-clause-within c = continuations_there _ c.args.self.now.found

pub returns : goal.returns
returns c = three_put _ _ _ _ _ c.put_record_places.ensures c.put_record_places-b.ensures c.put_record_places-a.ensures c.requires
