-- What a reader finds at its position, and where it goes on. Assumes nothing.
use Rattle.std.specs.Prelude.{ℕ, ◌+◌, ◌≡◌, List, [], ◌∷◌, length, get_or, ltb, Option, Some, None, Ok, Err}
use Rattle.refusal.specs.Said.{Said, ok}
use Rattle.refusal.specs.Lists.{pick}
use Rattle.word_reader.specs.Parse.{Place}
use Rattle.word_reader.specs.Records.{state_at}
use Rattle.word_serialized.specs.declared.SerializedReader.{SerializedReader}

-- a word, or nothing
abbrev pub word_said : Option ℕ → Said
word_said (Some x) = ok (x ∷ [])
word_said None = ok []

-- "takes the next word, or nothing at the end"
abbrev pub word_at : List ℕ → ℕ → Option ℕ
word_at w at = pick (ltb at (length w)) (Some (get_or w at 0)) None

-- behind the word; at the end a reader stays
abbrev pub past_word : List ℕ → ℕ → ℕ
past_word w at = pick (ltb at (length w)) (at + 1) at

-- behind a record that was read; at its front, where it was refused
abbrev pub past_record : Place → ℕ → ℕ
past_record (Ok p) at = p
past_record (Err r) at = at

abbrev pub past_state : List ℕ → ℕ → ℕ
past_state w at = past_record (state_at w at) at

-- a call on a reader answers what f finds in its words at its position, and leaves it with the same words, at the position that g gives
pub record Moves {A : Type 0} (f : List ℕ → ℕ → A) (g : List ℕ → ℕ → ℕ) (h : SerializedReader) (r : A) (h' : SerializedReader) : Type 0 where
  pub answer : r ≡ f h.data.now h.position
  pub same : h'.data ≡ h.data
  pub onward : h'.position ≡ g h.data.now h.position
