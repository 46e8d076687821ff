-- The places of the runs and of the wide rows are written, and behind them the others.
use Rattle.room_fill.proofs.Parts.{three_put}
use Rattle.word_layout.proofs.Found.{runs_there, wide_there}
use Rattle.room_fill.proofs.table.Table.put_record_places.Goals as goal

pub put_record_places-a-requires-clause-within : goal.put_record_places-a-requires-clause-within
put_record_places-a-requires-clause-within c = runs_there _ c.args.self.now.found

pub put_record_places-b-requires-clause-within : goal.put_record_places-b-requires-clause-within
put_record_places-b-requires-clause-within c = wide_there _ c.args.self.now.found

pub returns : goal.returns
returns c = three_put _ _ _ _ _ c.put_later_places.ensures c.put_record_places-b.ensures c.put_record_places-a.ensures c.requires
