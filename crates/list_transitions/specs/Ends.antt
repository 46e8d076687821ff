-- What reading into a lent buffer of n numbers answers, and leaves there. Assumes nothing.
use Rattle.std.specs.Prelude.{ℕ, ◌≡◌, List, ltb, Result}
use Rattle.refusal.specs.declared.Refusal.{Refusal}
use Rattle.refusal.specs.Said.{ROOM}
use Rattle.refusal.specs.Lists.{pick}
use Rattle.buffer.specs.Over.{zeros, padded}
use Rattle.list_transitions.specs.declared.Transitions.{Transitions}
use Rattle.list_transitions.specs.Intervals.{ends_all}
use Rattle.list_transitions.specs.Read.{Parsed, parsed, refused, parse, said, counted}

-- "ROOM comes before the first": 1,024 intervals have 2,048 ends
unfoldable pub parse_into : ℕ → List ℕ → Parsed
parse_into n w = pick (ltb n 2048) (refused ROOM 0) (parse w)

-- "Refused: all outputs zero. Accepted: outputs past the answer's length zero."
unfoldable pub ends_in : ℕ → Parsed → List ℕ
ends_in n (parsed ts) = padded n (ends_all ts)
ends_in n (refused k p) = zeros n

-- the answer says it, and the buffer holds it
pub record Writes (r : Result Transitions Refusal) (n : ℕ) (out : List ℕ) (x : Parsed) : Type 0 where
  pub says : said r ≡ counted x
  pub leaves : out ≡ ends_in n x
