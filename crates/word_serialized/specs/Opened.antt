-- How a table's words open: the tag, then the count of the modes. Assumes nothing.
use Rattle.std.specs.Prelude.{ℕ, List, [], ◌∷◌, length, eqb, Option, Some, None, Result, Ok, Err}
use Rattle.refusal.specs.declared.Refusal.{Refusal}
use Rattle.refusal.specs.Said.{Said, ok, refusal_at, no_by, SHORT, TAG}
use Rattle.refusal.specs.Fixed.{tag}
use Rattle.refusal.specs.Lists.{pick}
use Rattle.word_serialized.specs.Reader.{word_at}

-- how many modes, or a refusal
abbrev pub opening_said : Result ℕ Refusal → Said
opening_said (Ok n) = ok (n ∷ [])
opening_said (Err r) = no_by r

abbrev pub refused : ℕ → ℕ → Result ℕ Refusal
refused n p = Err (refusal_at n p)

-- the count of the modes; "SHORT in words returns the word count", which is n
unfoldable pub counted : Option ℕ → ℕ → Result ℕ Refusal
counted (Some m) n = Ok m
counted None n = refused SHORT n

-- "2 TAG | the first word differs | 0"; behind the tag the count of the modes
unfoldable pub opened : Option ℕ → Option ℕ → ℕ → Result ℕ Refusal
opened (Some t) m n = pick (eqb t tag) (counted m n) (refused TAG 0)
opened None m n = refused SHORT n

abbrev pub opening_of : List ℕ → Result ℕ Refusal
opening_of w = opened (word_at w 0) (word_at w 1) (length w)
