-- The intervals of a transition (document 01, "Transitions, segments, rows"), half open: the points from low to before end. Assumes nothing.
use Rattle.std.specs.Prelude.{ℕ, suc, ◌+◌, ◌-◌, max, min, Bool, false, ◌&&◌, ◌||◌, List, [], ◌∷◌, ◌++◌, leb, ltb, length}
use Rattle.refusal.specs.Lists.{pick}
use Rattle.list_transitions.specs.Transition.{Pair, Transition, atom, range, set, not_set, wildcard, origin, points, beyond}

pub record Span : Type 0 where
  pub low : ℕ
  pub end : ℕ

abbrev pub in_span : Span → ℕ → Bool
in_span s p = leb s.low p && ltb p s.end

unfoldable pub within : List Span → ℕ → Bool
within [] p = false
within (s ∷ ss) p = in_span s p || within ss p

-- "Intervals are cut to 0..0x10FFFF and empty ones dropped": the points whose keys are from a to before b, if there are any, in front of others
abbrev pub clipped : ℕ → ℕ → Span
clipped a b = record { low = a - origin; end = min (b - origin) points }

unfoldable pub clip : ℕ → ℕ → List Span → List Span
clip a b rest = pick (ltb (a - origin) (min (b - origin) points)) (clipped a b ∷ rest) rest

-- a set gives its pairs
unfoldable pub clips : List Pair → List Span
clips [] = []
clips (a ∷ more) = clip a.low (suc a.high) (clips more)

-- "Not-set gives the gaps": from the key `next` to the first pair, between the pairs, and behind the last
unfoldable pub gaps : ℕ → List Pair → List Span
gaps next [] = clip next beyond []
gaps next (a ∷ more) = clip next a.low (gaps (max next (suc a.high)) more)

-- "an inverted range holds nothing"
unfoldable pub intervals : Transition → List Span
intervals (atom k) = clip k (suc k) []
intervals (range a b) = clip a (suc b) []
intervals (set more) = clips more
intervals (not_set more) = gaps origin more
intervals wildcard = clip origin beyond []

-- how many intervals a list of transitions has
unfoldable pub total : List Transition → ℕ
total [] = 0
total (t ∷ ts) = length (intervals t) + total ts

-- both ends of each interval, in the order of the records
unfoldable pub ends : List Span → List ℕ
ends [] = []
ends (s ∷ ss) = s.low ∷ s.end ∷ ends ss

unfoldable pub ends_all : List Transition → List ℕ
ends_all [] = []
ends_all (t ∷ ts) = ends (intervals t) ++ ends_all ts

-- the intervals of each transition of a list, and which of such lists hold a point
unfoldable pub all_intervals : List Transition → List (List Span)
all_intervals [] = []
all_intervals (t ∷ ts) = intervals t ∷ all_intervals ts

unfoldable pub bits_at : List (List Span) → ℕ → List Bool
bits_at [] p = []
bits_at (t ∷ ts) p = within t p ∷ bits_at ts p

-- both ends of each interval are so
abbrev pub Spans : (ℕ → Type 0) → List Span → Type 0
Spans P [] = Unit {0}
Spans P (s ∷ ss) = P s.low × P s.end × Spans P ss

abbrev pub Lists : (ℕ → Type 0) → List (List Span) → Type 0
Lists P [] = Unit {0}
Lists P (t ∷ ts) = Spans P t × Lists P ts
