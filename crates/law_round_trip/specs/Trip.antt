-- Demand 2's round trip, as it is stated: for words that decoding accepts into a room of n numbers. Assumes nothing.
use Rattle.std.specs.Prelude.{ℕ, ◌≤◌, ◌≡◌, true, List, length}
use Rattle.buffer.specs.Over.{padded}
use Rattle.room_decode.specs.Decode.{decode_of, room_of}
use Rattle.room_judge.specs.Judge.{words_part, accepted, is_table}
use Rattle.room_encode.specs.Encode.{encode_of, out_of}
use Rattle.law_tables.specs.Table.{Table, Fields, words_of}
use Rattle.law_tables.specs.Rules.{Rules}
use Rattle.law_tables.specs.Normal.{normal}
use Rattle.std.specs.Prelude.{Ok}

pub record Trip (w : List ℕ) (n : ℕ) : Type 0 where
  -- the words are those of a table that obeys the rules
  pub table : Table
  pub fields : Fields table
  pub rules : Rules table
  pub words : w ≡ words_of table
  -- the room that decoding leaves is a table, and has the words with flags made 0 or 1
  pub held : is_table (room_of w n) ≡ true
  pub part : words_part (room_of w n) ≡ words_of (normal table)
  -- encoding it gives those words, as many as there were
  pub encoded : (k : ℕ) → length w ≤ k → encode_of (room_of w n) k ≡ Ok (length w)
  pub out : (k : ℕ) → length w ≤ k → out_of (room_of w n) k ≡ padded k (words_of (normal table))
  -- decoding those gives the same answer, and the same room, number for number
  pub again : decode_of (words_of (normal table)) n ≡ decode_of w n
  pub room : room_of (words_of (normal table)) n ≡ room_of w n

-- a room d is what decoding leaves for accepted words w
abbrev pub Left : (w d : List ℕ) → Type 0
Left w d = (accepted (decode_of w (length d)) ≡ true) × (d ≡ room_of w (length d))
