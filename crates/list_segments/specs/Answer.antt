-- What the call for segments answers, and leaves in a lent buffer of n numbers. w is the list's bytes. Assumes nothing.
use Rattle.std.specs.Prelude.{ℕ, ◌≡◌, List, [], ◌∷◌, length, take, ltb, Result, Ok, Err}
use Rattle.refusal.specs.declared.Refusal.{Refusal}
use Rattle.refusal.specs.Said.{Said, ok, no_by, no, ROOM}
use Rattle.refusal.specs.Lists.{pick}
use Rattle.buffer.specs.Over.{zeros, padded}
use Rattle.list_transitions.specs.Read.{Parsed, parsed, refused, parse, accepted}
use Rattle.list_segments.specs.Segments.{cuts_of, starts, segments}

-- how many there are, or a refusal
abbrev pub said : Result ℕ Refusal → Said
said (Ok n) = ok (n ∷ [])
said (Err r) = no_by r

-- "ROOM comes before the first: segments 4,096 numbers"
unfoldable pub parse_for : ℕ → List ℕ → Parsed
parse_for n w = pick (ltb n 4096) (refused ROOM 0) (parse w)

-- how many segments, or the refusal
unfoldable pub counted : Parsed → Said
counted (parsed ts) = ok (length (starts (cuts_of ts)) ∷ [])
counted (refused k p) = no k p

-- "Refused: all outputs zero. Accepted: outputs past the answer's length zero."
unfoldable pub segments_in : ℕ → Parsed → List ℕ
segments_in n (parsed ts) = padded n (segments (cuts_of ts))
segments_in n (refused k p) = zeros n

-- the answer says it, and the buffer holds it
pub record Writes (r : Result ℕ Refusal) (n : ℕ) (out : List ℕ) (x : Parsed) : Type 0 where
  pub says : said r ≡ counted x
  pub leaves : out ≡ segments_in n x

-- On the way there: how many cuts, which stand in the front of a buffer

unfoldable pub cuts_counted : Parsed → Said
cuts_counted (parsed ts) = ok (length (cuts_of ts) ∷ [])
cuts_counted (refused k p) = no k p

pub record Cuts (r : Result ℕ Refusal) (out : List ℕ) (x : Parsed) : Type 0 where
  pub says : said r ≡ cuts_counted x
  pub front : take (length (cuts_of (accepted x))) out ≡ cuts_of (accepted x)
  pub size : length out ≡ 2048
