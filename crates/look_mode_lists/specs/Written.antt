-- What a call that writes a list into a lent buffer answers and leaves there. Assumes nothing.
use Rattle.std.specs.Prelude.{ℕ, ◌≡◌, List, [], ◌∷◌, length}
use Rattle.refusal.specs.Said.{Said, ok, no}
use Rattle.buffer.specs.Written.{said}
use Rattle.buffer.specs.Over.{zeros, padded}
use Rattle.std.specs.Prelude.{Result}
use Rattle.refusal.specs.declared.Refusal.{Refusal}

-- a list that is written, or a refusal by number and place
pub data Wrote : Type 0 where
  wrote : List ℕ → Wrote
  refused : ℕ → ℕ → Wrote

-- how many numbers the list has, or the refusal
abbrev pub wrote_said : Wrote → Said
wrote_said (wrote l) = ok (length l ∷ [])
wrote_said (refused n p) = no n p

-- "Refused: all outputs zero. Accepted: outputs past the answer's length zero."
abbrev pub left_in : ℕ → Wrote → List ℕ
left_in n (wrote l) = padded n l
left_in n (refused k p) = zeros n

-- the answer says it, and a buffer of n numbers holds it
pub record Writes (r : Result ℕ Refusal) (n : ℕ) (out : List ℕ) (g : Wrote) : Type 0 where
  pub says : said r ≡ wrote_said g
  pub leaves : out ≡ left_in n g
