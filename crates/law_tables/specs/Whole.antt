-- What is asked of any list of words: each is a word.
use Rattle.std.specs.Prelude.{ℕ, ◌<◌, List, length, get_or}

-- each word is a number of 32 bits
abbrev pub Fit : List ℕ → Type 0
Fit w = (i : ℕ) → i < length w → get_or w i 0 < 4294967296
