-- Texts one behind the other, and one of two by a test. Assumes nothing.
use Rattle.std.specs.Prelude.{ℕ, List, [], ◌∷◌, ◌++◌, ltb, eqb}
use Rattle.refusal.specs.Lists.{pick}

unfoldable pub joined : List (List ℕ) → List ℕ
joined [] = []
joined (t ∷ ts) = t ++ joined ts

-- the first text where a is below b, else the second; and where they are the same
unfoldable pub if_less : ℕ → ℕ → List ℕ → List ℕ → List ℕ
if_less a b xs ys = pick (ltb a b) xs ys

unfoldable pub if_same : ℕ → ℕ → List ℕ → List ℕ → List ℕ
if_same a b xs ys = pick (eqb a b) xs ys
