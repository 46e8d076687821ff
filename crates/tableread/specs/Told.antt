-- What `tableread`'s line tells of the words that were read. Assumes nothing.
use Rattle.std.specs.Prelude.{ℕ, ◌<◌, ◌≡◌, List, [], ◌∷◌}
use Rattle.refusal.specs.Said.{Said, ok, no_by}
use Rattle.law_tables.specs.Fronts.{Exactly}
use Rattle.lexer_dfa.specs.Demands.{Accepted}
use Rattle.lexer_dfa.specs.RefusedBy.{RefusedBy}
use Rattle.tableread.specs.Line.{line_of}

-- "MODES STATES WORDS", or "NUMBER PLACE ITEM"
abbrev pub values : Said → List ℕ
values (ok numbers) = numbers
values (no_by r) = r.number ∷ r.place ∷ r.item ∷ []

-- each number is one of 64 bits, as those are that the program prints
abbrev pub Printable : List ℕ → Type 0
Printable [] = Unit {0}
Printable (x ∷ xs) = (x < 18446744073709551616) × Printable xs

-- a line tells what decoding says of words w, in the program's room of 16,384 numbers
pub record Told (w line : List ℕ) : Type 0 where
  pub says : Said
  -- the line is that of what is said, and of nothing else in numbers of 64 bits
  pub shown : (x : Said) → Exactly (says ≡ x) (Printable (values x) × (line ≡ line_of x))
  -- `ok MODES STATES WORDS`: of the words of a table that obeys the rules, and of no others
  pub accepts : (modes states words : ℕ) → Exactly (says ≡ ok (modes ∷ states ∷ words ∷ [])) (Accepted w modes states words)
  -- `no NUMBER PLACE ITEM`: each number on its condition, with its place and item
  pub refuses : RefusedBy w 16384 says
