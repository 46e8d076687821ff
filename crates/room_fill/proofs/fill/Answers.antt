-- The room is cleared, and a table that was found within the limits is written.
use Rattle.room_fill.proofs.Tables.{filling, all_there}
use Rattle.room_fill.proofs.fill.Goals as goal

pub invariant_of-put : goal.invariant_of-put
invariant_of-put c = search filling

pub put-requires : goal.put-requires
put-requires c = search filling

pub returns-in_err-sections : goal.returns-in_err-sections
returns-in_err-sections c = search filling

pub returns : goal.returns
returns c = (search filling, all_there _ _ c.put.ensures c.in_ok-sections.was c.find_within_limits.ensures c.clear.ensures)
