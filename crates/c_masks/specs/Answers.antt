-- The answers about masks in C: a number of 0 and the counts, or the refusal's number and place; and what is left in the buffers.
-- s, n and d are how many numbers the buffers for segments, masks and distinct masks have, x the list read. Assumes nothing.
use Rattle.std.specs.Prelude.{ℕ, ◌≡◌, List, get_or}
use Rattle.refusal.specs.Said.{Said, ok, no_by}
use Rattle.list_transitions.specs.Read.{Parsed}
use Rattle.list_segments.specs.Answer.{segments_in}
use Rattle.list_masks.specs.Masks.{matrix, distinct_of}
use Rattle.list_masks.specs.Answer.{counted, masks_in}
use Rattle.c_masks.specs.declared.CMasks.{CMasks}

-- how many masks, and of how many words each
abbrev pub masks_in_c : Said → CMasks
masks_in_c (ok l) = record { number = 0; item = 0; place = 0; masks = get_or l 0 0; words = get_or l 1 0 }
masks_in_c (no_by r) = record { number = r.number; item = r.item; place = r.place; masks = 0; words = 0 }

-- the answer says it, and the buffers hold it: the segments, and a mask for each ..
pub record MatrixInC (r : CMasks) (s : ℕ) (segments : List ℕ) (n : ℕ) (masks : List ℕ) (x : Parsed) : Type 0 where
  pub says : r ≡ masks_in_c (counted matrix x)
  pub low_high : segments ≡ segments_in s x
  pub leaves : masks ≡ masks_in matrix n x

-- .. and the distinct ones too
pub record DistinctInC (r : CMasks) (s : ℕ) (segments : List ℕ) (n : ℕ) (masks : List ℕ) (d : ℕ) (distinct : List ℕ) (x : Parsed) : Type 0 where
  pub says : r ≡ masks_in_c (counted distinct_of x)
  pub low_high : segments ≡ segments_in s x
  pub each : masks ≡ masks_in matrix n x
  pub leaves : distinct ≡ masks_in distinct_of d x
