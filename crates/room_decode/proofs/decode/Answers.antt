-- The room is filled, and the rules judge the words: where one is broken, the room is cleared again.
use Rattle.room_decode.proofs.Decoding.{decoding, broke, broke_room}
use Rattle.room_decode.proofs.decode.Goals as goal

pub returns-in_err-s : goal.returns-in_err-s
returns-in_err-s c = search decoding

pub returns-in-Some : goal.returns-in-Some
returns-in-Some c =
    let g = c.fill.ensures.0 in
    let i = c.in_ok-s.was in
    let b = c.first_broken.ensures in
    let z = c.in-Some.is in
    (broke _ _ g i b z, broke_room _ _ g i b z _ c.clear.ensures c.fill.auto.room)

pub returns : goal.returns
returns c = search decoding
