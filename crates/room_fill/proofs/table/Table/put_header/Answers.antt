use Rattle.room_fill.proofs.Tables.{header_put}
use Rattle.room_fill.proofs.table.Table.put_header.Goals as goal

pub returns : goal.returns
returns c =
    header_put _ _ _ c.in_room.ensures c.in_room-2.ensures c.in_room-3.ensures c.in_room-4.ensures c.in_room-5.ensures c.in_room-6.ensures
    c.in_room-7.ensures c.in_room-8.ensures c.requires c.copy_words.ensures
