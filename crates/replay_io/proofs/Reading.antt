-- The laws of reading from bytes. Assumes nothing.
use Rattle.std.proofs.Common.{◌≡◌, ℕ, zero, suc, List, [], ◌∷◌, ◌++◌, length, take, drop, replicate, refl, ap, arith}
use Rattle.std.specs.Int.{w16, w32, w64, from_le_bytes}
use Rattle.replay_io.specs.Bytes.{number, padded}

-- the bytes that are there, over as many zeros
pub padded-is : (k : ℕ) (s : List ℕ) → take k s ++ drop (length (take k s)) (replicate k 0) ≡ padded k s
unfolding padded
padded-is zero s = refl
padded-is (suc zero) [] = refl
padded-is (suc (suc k)) [] = ap (λ l. 0 ∷ l) (padded-is (suc k) [])
padded-is (suc k) (x ∷ s) = ap (λ l. x ∷ l) (padded-is k s)

-- a number of two, of four and of eight bytes
module _ (s : List ℕ) where
  pub half-is : number 2 s ≡ from_le_bytes w16 (padded 2 s)
  unfolding number padded
  half-is = omega arith

  pub word-is : number 4 s ≡ from_le_bytes w32 (padded 4 s)
  unfolding number padded
  word-is = omega arith

  pub long-is : number 8 s ≡ from_le_bytes w64 (padded 8 s)
  unfolding number padded
  long-is = omega arith
