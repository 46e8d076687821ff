-- What a continuation follows from. Assumes nothing.
use Rattle.room_find.proofs.Records.{ofstate, oflist}
use Rattle.look_row.proofs.Searches.{row_missed}

-- where what is found lies, and that a search that gives nothing led outside
pub ruleset chain = (ofstate, oflist, row_missed)
