-- What `tableread` prints: document 01, "prints `ok MODES STATES WORDS` or `no NUMBER PLACE`", and document 02, "prints `no NUMBER PLACE ITEM`".
-- Assumes nothing.
use Rattle.std.specs.Prelude.{ℕ, List, [], ◌∷◌, ◌++◌}
use Rattle.refusal.specs.Said.{Said, ok, no_by}
use Rattle.refusal.specs.Lists.{each}
use Rattle.program_io.specs.Decimal.{number}

-- a space and a number
unfoldable pub spaced : ℕ → List ℕ
spaced n = 32 ∷ number n

-- a word, numbers, and the end of the line
unfoldable pub line_with : List ℕ → List ℕ → List ℕ
line_with word numbers = word ++ (each spaced numbers ++ (10 ∷ []))

-- `ok` or `no`, and the numbers of what is said
unfoldable pub line_of : Said → List ℕ
line_of (ok numbers) = line_with (111 ∷ 107 ∷ []) numbers
line_of (no_by r) = line_with (110 ∷ 111 ∷ []) (r.number ∷ r.place ∷ r.item ∷ [])
