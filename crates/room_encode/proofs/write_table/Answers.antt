-- The output is long enough, or not.
use Rattle.room_encode.proofs.Writing.{encoding, first_there}
use Rattle.room_encode.proofs.write_table.Goals as goal

pub bounds-room-0 : goal.bounds-room-0
bounds-room-0 c = first_there _ c.requires.found

pub returns-then-out-words : goal.returns-then-out-words
returns-then-out-words c = search encoding

pub slice_bounds-write_sections-end : goal.slice_bounds-write_sections-end
slice_bounds-write_sections-end c = search encoding

pub write_sections-requires-clause-found : goal.write_sections-requires-clause-found
write_sections-requires-clause-found c = search encoding

pub returns : goal.returns
returns c = search encoding
