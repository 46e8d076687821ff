-- How the code walks: over records, over their pairs, and over segments. w is the list's bytes, ns the numbers of a buffer, k how many are
-- left. Assumes nothing.
use Rattle.std.specs.Prelude.{ℕ, zero, suc, ◌+◌, ◌*◌, ◌-◌, ◌^◌, ◌≤◌, ◌<◌, ◌≡◌, Bool, List, [], ◌∷◌, length, get_or, leb, ltb}
use Rattle.refusal.specs.Lists.{pick}
use Rattle.list_transitions.specs.Transition.{Transition, origin, any_has, holds}
use Rattle.list_transitions.specs.Bytes.{number_at, pairs_at}
use Rattle.list_transitions.specs.Walk.{next_at}
use Rattle.list_masks.specs.Masks.{bit}

-- where the record stands that comes k records behind the one at `at`
unfoldable pub next_of : List ℕ → ℕ → ℕ → ℕ
next_of w zero at = at
next_of w (suc k) at = next_of w k (next_at w at)

-- the low and the high of pair i of those that start at p
abbrev pub low_at : List ℕ → ℕ → ℕ → ℕ
low_at w p i = number_at w (p + 8 * i)

abbrev pub high_at : List ℕ → ℕ → ℕ → ℕ
high_at w p i = number_at w (p + 8 * i + 4)

-- each of n pairs starts and ends behind those before it
pub record Rises (w : List ℕ) (n p : ℕ) : Type 0 where
  pub apart : (i k : ℕ) → i < k → k < n → high_at w p i < low_at w p k
  pub each : (i k : ℕ) → i < k → k < n → high_at w p i < high_at w p k

-- r of n pairs end before the key q ..
pub record Passed (w : List ℕ) (n p q r : ℕ) : Type 0 where
  pub within : r ≤ n
  pub before : (i : ℕ) → i < r → high_at w p i < q

-- .. and the next, if there is one, does not
pub record Reach (w : List ℕ) (n p q r : ℕ) : Type 0 where
  pub passed : Passed w n p q r
  pub after : r < n → q ≤ high_at w p r

-- r is the key just behind the last of the first j pairs, or 0
pub record Floor (w : List ℕ) (p j r : ℕ) : Type 0 where
  pub none : j ≡ 0 → r ≡ 0
  pub some : 0 < j → r ≡ high_at w p (j - 1) + 1

-- no point has a key above this
abbrev pub last : ℕ
last = 8589934592

-- one of n pairs holds a key from floor to high just where it is not below low, and q is such a key
pub record Spans (w : List ℕ) (n p q floor low high : ℕ) : Type 0 where
  pub from : floor ≤ q
  pub to : q ≤ high
  pub each : (k : ℕ) → floor ≤ k → k ≤ high → any_has (pairs_at w n p) k ≡ leb low k

-- by the tag: not-sets and wildcards hold what no pair does
unfoldable pub by_low : ℕ → ℕ → ℕ → Bool
by_low tag low q = pick (leb 4 tag) (ltb q low) (leb low q)

-- of the points with a key from floor to high, the transition holds just those that `by_low` says ..
pub record Tells (t : Transition) (tag floor low high : ℕ) : Type 0 where
  pub each : (point : ℕ) → floor ≤ point + origin → point + origin ≤ high → holds t point ≡ by_low tag low (point + origin)

-- .. and q is such a key
pub record Covers (t : Transition) (tag q floor low high : ℕ) : Type 0 where
  pub tells : Tells t tag floor low high
  pub from : floor ≤ q
  pub to : q ≤ high

-- the first points of k segments from `at` on, which stand as low, high
unfoldable pub lows : List ℕ → ℕ → ℕ → List ℕ
lows ns zero at = []
lows ns (suc k) at = get_or ns at 0 ∷ lows ns k (at + 2)

-- the bit of the transition t, put in front of the words of the points ps, which stand first
unfoldable pub column : Transition → List ℕ → List ℕ → List ℕ
column t [] xs = xs
column t (p ∷ ps) [] = []
column t (p ∷ ps) (x ∷ xs) = (bit (holds t p) + 2 * x) ∷ column t ps xs

-- the bits of all transitions, those of the last put first
unfoldable pub stacked : List Transition → List ℕ → List ℕ → List ℕ
stacked [] ps xs = xs
stacked (t ∷ ts) ps xs = column t ps (stacked ts ps xs)

-- so many words stand in xs, each with room for a bit
pub record Columned (count : ℕ) (xs : List ℕ) : Type 0 where
  pub room : count ≤ length xs
  pub small : (i : ℕ) → i < count → get_or xs i 0 < 2 ^ 63
