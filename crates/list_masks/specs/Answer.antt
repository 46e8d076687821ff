-- What the calls for masks answer, and leave in the lent buffers. w is the list's bytes, x the list, s, n and d how many numbers the buffers
-- for segments, masks and distinct masks have. Assumes nothing.
use Rattle.std.specs.Prelude.{ℕ, ◌≤◌, ◌≡◌, List, [], ◌∷◌, true, length, ltb, Result, Ok, Err}
use Rattle.refusal.specs.declared.Refusal.{Refusal}
use Rattle.refusal.specs.Said.{Said, ok, no_by, no, ROOM}
use Rattle.refusal.specs.Lists.{pick}
use Rattle.buffer.specs.Over.{zeros, padded}
use Rattle.list_transitions.specs.Transition.{Transition}
use Rattle.list_transitions.specs.Read.{Parsed, parsed, refused, parse, is_parsed, accepted}
use Rattle.list_segments.specs.Segments.{cuts_of, starts}
use Rattle.list_segments.specs.Answer.{parse_for, segments_in}
use Rattle.list_masks.specs.declared.Masks.{Masks}
use Rattle.list_masks.specs.Masks.{words_for, matrix, flat, distinct_of}

-- how many masks, and of how many words each, or a refusal
abbrev pub said : Result Masks Refusal → Said
said (Ok m) = ok (m.masks ∷ m.words ∷ [])
said (Err r) = no_by r

-- "ROOM comes before the first: segments 4,096 numbers, masks 8,192 64-bit words, distinct masks the same"
unfoldable pub parse_masks : ℕ → ℕ → List ℕ → Parsed
parse_masks s n w = pick (ltb n 8192) (refused ROOM 0) (parse_for s w)

unfoldable pub parse_distinct : ℕ → ℕ → ℕ → List ℕ → Parsed
parse_distinct s n d w = pick (ltb d 8192) (refused ROOM 0) (parse_masks s n w)

-- of the masks that a list gives: how many, and of how many words each, or the refusal
unfoldable pub counted : (List Transition → List (List ℕ)) → Parsed → Said
counted f (parsed ts) = ok (length (f ts) ∷ words_for (length ts) ∷ [])
counted f (refused k p) = no k p

-- "Refused: all outputs zero. Accepted: outputs past the answer's length zero."
unfoldable pub masks_in : (List Transition → List (List ℕ)) → ℕ → Parsed → List ℕ
masks_in f n (parsed ts) = padded n (flat (f ts))
masks_in f n (refused k p) = zeros n

-- the answer says it, and the buffers hold it: the segments, and a mask for each ..
pub record Matrix (r : Result Masks Refusal) (s : ℕ) (segments : List ℕ) (n : ℕ) (masks : List ℕ) (x : Parsed) : Type 0 where
  pub says : said r ≡ counted matrix x
  pub low_high : segments ≡ segments_in s x
  pub leaves : masks ≡ masks_in matrix n x

-- .. and the distinct ones too
pub record Distinct (r : Result Masks Refusal) (s : ℕ) (segments : List ℕ) (n : ℕ) (masks : List ℕ) (d : ℕ) (distinct : List ℕ) (x : Parsed) : Type 0 where
  pub says : said r ≡ counted distinct_of x
  pub low_high : segments ≡ segments_in s x
  pub each : masks ≡ masks_in matrix n x
  pub leaves : distinct ≡ masks_in distinct_of d x

-- On the way there: the segments of an accepted list stand, and the buffer for masks is empty
pub record Ready (w segments : List ℕ) (count : ℕ) (masks : List ℕ) : Type 0 where
  pub good : is_parsed (parse w) ≡ true
  pub points : segments ≡ segments_in (length segments) (parse w)
  pub long : 4096 ≤ length segments
  pub each : count ≡ length (starts (cuts_of (accepted (parse w))))
  pub empty : masks ≡ zeros (length masks)
  pub room : 8192 ≤ length masks
