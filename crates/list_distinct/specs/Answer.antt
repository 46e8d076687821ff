-- What the call for the places of masks answers, and leaves in the lent buffers: where each segment's mask stands among the distinct ones, which
-- row building asks for. w is the list's bytes, x the list, s, n, d and p how many numbers the buffers for segments, masks, distinct masks and
-- their places have. Assumes nothing.
use Rattle.std.specs.Prelude.{ℕ, ◌≡◌, List, [], ◌∷◌, length, ltb, Result, Ok, Err}
use Rattle.refusal.specs.declared.Refusal.{Refusal}
use Rattle.refusal.specs.Said.{Said, ok, no_by, no, ROOM}
use Rattle.refusal.specs.Lists.{pick}
use Rattle.buffer.specs.Over.{zeros, padded}
use Rattle.list_transitions.specs.Read.{Parsed, parsed, refused}
use Rattle.list_segments.specs.Segments.{cuts_of, starts}
use Rattle.list_segments.specs.Answer.{segments_in}
use Rattle.list_masks.specs.Masks.{words_for, matrix, distinct_of, places_of}
use Rattle.list_masks.specs.Answer.{parse_distinct, masks_in}
use Rattle.list_distinct.specs.declared.Places.{Places}

-- how many segments, how many distinct masks, and of how many words each, or a refusal
abbrev pub told : Result Places Refusal → Said
told (Ok f) = ok (f.segments ∷ f.masks ∷ f.words ∷ [])
told (Err r) = no_by r

-- a place for each of the 2,047 segments that a list may have, with one to spare
unfoldable pub parse_places : ℕ → ℕ → ℕ → ℕ → List ℕ → Parsed
parse_places s n d p w = pick (ltb p 2048) (refused ROOM 0) (parse_distinct s n d w)

unfoldable pub found_in : Parsed → Said
found_in (parsed ts) = ok (length (starts (cuts_of ts)) ∷ length (distinct_of ts) ∷ words_for (length ts) ∷ [])
found_in (refused k p) = no k p

unfoldable pub placed_in : ℕ → Parsed → List ℕ
placed_in n (parsed ts) = padded n (places_of ts)
placed_in n (refused k p) = zeros n

-- the answer says it, and the buffers hold it: the segments, a mask for each, the distinct ones, and the places
pub record Placed (r : Result Places Refusal) (s : ℕ) (segments : List ℕ) (n : ℕ) (masks : List ℕ) (d : ℕ) (distinct : List ℕ) (p : ℕ) (places : List ℕ)
    (x : Parsed) : Type 0 where
  pub says : told r ≡ found_in x
  pub low_high : segments ≡ segments_in s x
  pub each : masks ≡ masks_in matrix n x
  pub once : distinct ≡ masks_in distinct_of d x
  pub leaves : places ≡ placed_in p x
