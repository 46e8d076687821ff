-- The records of a table, each as it is read (document 01, "Words of a table").
use Rattle.std.specs.Prelude.{ℕ, ◌+◌, List, [], ◌∷◌, Bool, true, ◌||◌, get_or, leb, eqb}
use Rattle.refusal.specs.Fixed.{NONE}
use Rattle.std.specs.Prelude.{Ok, Err}
use Rattle.run_shape.specs.Shape.{Got}
use Rattle.run_shape.specs.Words.{read_at, size_of}
use Rattle.word_reader.specs.Parse.{Place, fields, block, section, both}

-- What a field allows

unfoldable pub any : ℕ → Bool
any x = true

-- at most 65535
unfoldable pub target : ℕ → Bool
target x = leb x 65535

-- "start state, or NONE; a value from 65536 to NONE-1 is a bad field"
unfoldable pub start : ℕ → Bool
start x = leb x 65535 || eqb x NONE

-- Records

-- "2. modes: start state, or NONE"
abbrev pub mode_at : List ℕ → ℕ → Place
mode_at = fields (start ∷ [])

-- "3. states: ascii row, wide row, EOF target (at most 65535), accept index or NONE"
abbrev pub state_at : List ℕ → ℕ → Place
state_at = fields (any ∷ any ∷ target ∷ any ∷ [])

-- "4. runs": where the run that is read ends
abbrev pub after_run : ℕ → Got → Place
after_run at (Ok r) = Ok (at + size_of r)
after_run at (Err r) = Err r

abbrev pub run_at : List ℕ → ℕ → Place
run_at w at = after_run at (read_at w at)

-- "5. ascii rows: 64 words"
abbrev pub ascii_at : List ℕ → ℕ → Place
ascii_at = block 64 (λ l. true)

-- "6. wide rows: length, then low, high, target (at most 65535)"
abbrev pub range_at : List ℕ → ℕ → Place
range_at = fields (any ∷ any ∷ target ∷ [])

abbrev pub wide_at : List ℕ → ℕ → Place
wide_at = section range_at

-- three words: an action, or a range of an escape row
abbrev pub triple_at : List ℕ → ℕ → Place
triple_at = fields (any ∷ any ∷ any ∷ [])

-- "7. accepts: rule, consumed-EOF flag, action count, actions of three words"
abbrev pub accept_at : List ℕ → ℕ → Place
accept_at = both (fields (any ∷ any ∷ [])) (section triple_at)

-- "8. escape rows: EOF continuation or NONE, length, then low, high, continuation"
abbrev pub escape_at : List ℕ → ℕ → Place
escape_at = both (fields (any ∷ [])) (section triple_at)

-- "contexts (kind 0 or 1, two words)", of which all three are read before FIELD
unfoldable pub good_context : List ℕ → Bool
good_context c = leb (get_or c 0 0) 1

abbrev pub context_at : List ℕ → ℕ → Place
context_at = block 3 good_context

-- "configs (state, alternative rule or NONE, two flags, context, action count, actions)"
abbrev pub config_at : List ℕ → ℕ → Place
config_at = both (fields (any ∷ any ∷ any ∷ any ∷ any ∷ [])) (section triple_at)

-- "9. continuations: context count, contexts .., config count, configs .."
abbrev pub continuation_at : List ℕ → ℕ → Place
continuation_at = both (section context_at) (section config_at)
