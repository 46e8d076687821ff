-- The header, the words and the places are written one behind the other.
use Rattle.room_fill.proofs.Tables.{words_fit, places_fit, table_put}
use Rattle.room_fill.proofs.table.Table.put.Goals as goal

pub put_words-m-requires : goal.put_words-m-requires
put_words-m-requires c = words_fit _ _ c.args.self.now.found c.args.self.now.limit c.requires c.put_header-n.ensures

pub put_record_places-requires : goal.put_record_places-requires
put_record_places-requires c = places_fit _ _ c.args.self.now.found c.args.self.now.limit c.requires c.put_header-n.ensures c.put_words-m.ensures

pub returns : goal.returns
returns c = table_put _ _ c.args.self.now.found c.args.self.now.limit c.requires c.put_header-n.ensures c.put_words-m.ensures c.put_record_places.ensures
