-- What decoding answers, and what it leaves in the room: document 01, "Decoding: ROOM (table room under 16,384 numbers), LIMIT, then words
-- in order, LEFT, INDEX". Assumes nothing.
use Rattle.std.specs.Prelude.{ℕ, List, [], ◌∷◌, Result, Ok, Err, length, get_or, eqb}
use Rattle.refusal.specs.declared.Refusal.{Refusal}
use Rattle.refusal.specs.Said.{Said, ok, broken_by, no_by}
use Rattle.refusal.specs.Lists.{pick}
use Rattle.word_reader.specs.declared.Sections.{Sections}
use Rattle.word_layout.specs.Layout.{Layout}
use Rattle.rule_words.specs.Rules.{broken, broken_item}
use Rattle.buffer.specs.Over.{zeros}
use Rattle.word_layout.specs.Limits.{laid_out}
use Rattle.room_fill.specs.Room.{room_for}
use Rattle.room_decode.specs.declared.Decoded.{Decoded}

-- a table, or why the words are none
abbrev pub Decoding : Type 0
Decoding = Result Decoded Refusal

-- the number of modes, of states and of words, or a refusal
abbrev pub said : Decoding → Said
said (Ok t) = ok (t.modes ∷ t.states ∷ t.words ∷ [])
said (Err r) = no_by r

-- the numbers of the table that the words w are
abbrev pub counts : List ℕ → Sections → Decoded
counts w s = record { modes = get_or w s.modes 0; states = get_or w s.states 0; words = length w }

-- "INDEX | an index rule is broken | rule number": k is the first that is broken, or 0, and i the first item that breaks it
unfoldable pub judged : List ℕ → Sections → ℕ → ℕ → Decoding
judged w s k i = pick (eqb k 0) (Ok (counts w s)) (Err (broken_by k i))

-- the words, once their sections are found
unfoldable pub decoded_from : List ℕ → Layout → Decoding
decoded_from w (Ok s) = judged w s (broken w s) (broken_item w s)
decoded_from w (Err r) = Err r

-- into a room of n numbers
abbrev pub decode_of : List ℕ → ℕ → Decoding
decode_of w n = decoded_from w (laid_out w n)

-- "Refused: all outputs zero." The room of a table that breaks a rule is zero too
unfoldable pub kept_from : List ℕ → ℕ → Layout → List ℕ
kept_from w n (Ok s) = pick (eqb (broken w s) 0) (room_for w n (Ok s)) (zeros n)
kept_from w n (Err r) = zeros n

abbrev pub room_of : List ℕ → ℕ → List ℕ
room_of w n = kept_from w n (laid_out w n)
