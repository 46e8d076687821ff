-- The answer of decoding in C: a number of 0 and the counts, or the refusal's number and place. Assumes nothing.
use Rattle.std.specs.Prelude.{Ok, Err}
use Rattle.room_decode.specs.Decode.{Decoding}
use Rattle.c_decode.specs.declared.CDecoded.{CDecoded}

-- a table's counts, or its refusal
abbrev pub decoded_in_c : Decoding → CDecoded
decoded_in_c (Ok t) = record { number = 0; item = 0; place = 0; modes = t.modes; states = t.states; words = t.words }
decoded_in_c (Err r) = record { number = r.number; item = r.item; place = r.place; modes = 0; states = 0; words = 0 }
