-- Writing into a lent buffer: a list written over a part of another, which keeps its length.
use Rattle.std.specs.Prelude.{ℕ, ◌+◌, ◌-◌, ◌≡◌, List, [], ◌∷◌, ◌++◌, length, take, drop, replicate}

-- xs over the front of d, numbers of any width
unfoldable pub over : {X : Type 0} → List X → List X → List X
over [] d = d
over (x ∷ xs) [] = []
over (x ∷ xs) (y ∷ d) = x ∷ over xs d

-- xs over d from place n on
unfoldable pub lay : ℕ → List ℕ → List ℕ → List ℕ
lay n xs d = take n d ++ over xs (drop n d)

-- xs was written over `old` from n on, which gave `new`, and r is the place behind it
pub record Put (xs : List ℕ) (n : ℕ) (old : List ℕ) (r : ℕ) (new : List ℕ) : Type 0 where
  pub next : r ≡ n + length xs
  pub is : new ≡ lay n xs old

-- "Refused: all outputs zero."
abbrev pub zeros : ℕ → List ℕ
zeros n = replicate n 0

-- "Accepted: outputs past the answer's length zero": xs, and zeros behind it, n numbers in all
unfoldable pub padded : ℕ → List ℕ → List ℕ
padded n xs = xs ++ zeros (n - length xs)
