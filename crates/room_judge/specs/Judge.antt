-- Which rooms are tables: document 01, "Encoding and coverage give NOT-TABLE exactly when the room isn't what decoding leaves for some
-- accepted words". Assumes nothing.
use Rattle.std.specs.Prelude.{ℕ, ◌≤◌, ◌≡◌, List, Bool, ◌&&◌, is_ok, length, take, drop}
use Rattle.refusal.specs.Said.{NOT-TABLE}
use Rattle.refusal.specs.Lists.{pick, same_list}
use Rattle.refusal.specs.Header.{HEADER-NUMBERS, word_count}
use Rattle.word_layout.specs.Layout.{Layout, unfound, layout_of}
use Rattle.room_decode.specs.Decode.{Decoding, decode_of, room_of}

-- the words of a room: as many as its first number says, behind its header
unfoldable pub words_part : List ℕ → List ℕ
words_part d = take (word_count d) (drop HEADER-NUMBERS d)

-- w are the words of the room d, which is neither too short nor has too many words
pub record Part (w d : List ℕ) : Type 0 where
  pub is : w ≡ words_part d
  pub limit : length w ≤ 8192
  pub room : 16384 ≤ length d

abbrev pub accepted : Decoding → Bool
accepted = is_ok

-- a room is a table where its own words are accepted, into as many numbers, and decoding them leaves the room itself
unfoldable pub is_table : List ℕ → Bool
is_table d = accepted (decode_of (words_part d) (length d)) && same_list (room_of (words_part d) (length d)) d

-- the places of its sections in its words, or NOT-TABLE
unfoldable pub table_in : List ℕ → Layout
table_in d = pick (is_table d) (layout_of (words_part d)) (unfound NOT-TABLE 0)
