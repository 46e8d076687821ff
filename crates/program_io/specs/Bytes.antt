-- What a program reads: document 01, "The program `tableread` reads little-endian words from standard input", and `tableshow` likewise. n is how many
-- numbers the lent room has. Assumes nothing.
use Rattle.std.specs.Prelude.{ℕ, ◌/◌, ◌%◌, List, length, ltb, Result, Err}
use Rattle.refusal.specs.declared.Refusal.{Refusal}
use Rattle.refusal.specs.Said.{refusal_at, SHORT, LIMIT}
use Rattle.refusal.specs.Lists.{pick}
use Rattle.room_decode.specs.declared.Decoded.{Decoded}
use Rattle.room_decode.specs.Decode.{decode_of, room_of}
use Rattle.buffer.specs.Over.{zeros}
use Rattle.replay_io.specs.Bytes.{numbers}

-- the whole words of bytes, the least byte first
unfoldable pub words_in : List ℕ → List ℕ
words_in bs = numbers 4 (length bs / 4) bs

abbrev pub refused : ℕ → ℕ → Result Decoded Refusal
refused n p = Err (refusal_at n p)

-- "1 to 3 spare bytes are SHORT at the whole words, after LIMIT and before decoding"
unfoldable pub read_of : List ℕ → ℕ → Result Decoded Refusal
read_of bs n =
    pick (ltb 8192 (length (words_in bs))) (refused LIMIT 8192)
    (pick (ltb 0 (length bs % 4)) (refused SHORT (length (words_in bs)))
    (decode_of (words_in bs) n))

-- "Refused: all outputs zero."
unfoldable pub room_read : List ℕ → ℕ → List ℕ
room_read bs n =
    pick (ltb 8192 (length (words_in bs))) (zeros n)
    (pick (ltb 0 (length bs % 4)) (zeros n)
    (room_of (words_in bs) n))
