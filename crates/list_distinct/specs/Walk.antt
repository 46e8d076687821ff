-- How the code walks over masks that stand one behind another, and what it leaves. ns are the numbers of a buffer, k how many masks are left.
-- Assumes nothing.
use Rattle.std.specs.Prelude.{ℕ, zero, suc, ◌*◌, ◌≤◌, ◌≡◌, List, [], ◌∷◌, length, take, drop}
use Rattle.buffer.specs.Over.{lay, zeros}
use Rattle.list_masks.specs.Masks.{flat, add_new, distinct, place_of, places_in}

-- k masks of so many words
unfoldable pub chunks : ℕ → ℕ → List ℕ → List (List ℕ)
chunks zero words ns = []
chunks (suc k) words ns = take words ns ∷ chunks k words (drop words ns)

-- the masks ds stand in front of what was there, and r is how many
pub record Stand (ds : List (List ℕ)) (old : List ℕ) (r : ℕ) (new : List ℕ) : Type 0 where
  pub count : r ≡ length ds
  pub is : new ≡ lay 0 (flat ds) old

-- the mask m was put behind ds, if it is new, and r is its place
pub record Entered (ds : List (List ℕ)) (m old : List ℕ) (r : ℕ) (new : List ℕ) : Type 0 where
  pub place : r ≡ place_of (add_new ds m) m
  pub is : new ≡ lay 0 (flat (add_new ds m)) old

-- the distinct ones of the masks ms stand, r of them, and the place of each of ms was written over `olds`, which gave `news`
pub record Gathered (ms : List (List ℕ)) (old : List ℕ) (r : ℕ) (new olds news : List ℕ) : Type 0 where
  pub masks : Stand (distinct [] ms) old r new
  pub places : news ≡ lay 0 (places_in (distinct [] ms) ms) olds

-- so many masks of so many words stand in ms, `out` could take them all, and `places` as many numbers
pub record Spaced (ms : List ℕ) (count words : ℕ) (out places : List ℕ) : Type 0 where
  pub some : count * words ≤ length ms
  pub room : count * words ≤ length out
  pub each : count ≤ length places
  pub few : count ≤ 2047

-- two buffers, as long as before, hold zeros
pub record Zeroed (old new olds news : List ℕ) : Type 0 where
  pub words : new ≡ zeros (length old)
  pub numbers : news ≡ zeros (length olds)

-- the buffers for distinct masks and for places are long enough, and hold zeros
pub record Cleared (out places : List ℕ) : Type 0 where
  pub once : out ≡ zeros (length out)
  pub leaves : places ≡ zeros (length places)
  pub room : 8192 ≤ length out
  pub each : 2048 ≤ length places
