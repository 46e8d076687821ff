-- A transition, and which points it holds by its record (document 01, "Transitions, segments, rows"). A signed number stands as its key,
-- the number plus 2^31: keys order as the numbers do, and the point p has the key p + 2^31. q is a key, p a point. Assumes nothing.
use Rattle.std.specs.Prelude.{ℕ, ◌+◌, ◌<◌, ◌%◌, ◌≡◌, Bool, true, false, not, ◌&&◌, ◌||◌, List, [], ◌∷◌, leb, ltb, eqb}
use Rattle.refusal.specs.Lists.{pick}

-- "32-bit two's complement numbers": the key of the number whose word is n
abbrev pub key : ℕ → ℕ
key n = (n + 2147483648) % 4294967296

-- "the points 0 to 1,114,111": the key of the first, how many they are, and the key behind the last
abbrev pub origin : ℕ
origin = 2147483648

abbrev pub points : ℕ
points = 1114112

abbrev pub beyond : ℕ
beyond = 2148597760

pub record Pair : Type 0 where
  pub low : ℕ
  pub high : ℕ

-- "1 atom .., 2 range .., 3 set and 4 not-set .., 5 wildcard"
pub data Transition : Type 0 where
  atom : ℕ → Transition
  range : ℕ → ℕ → Transition
  set : List Pair → Transition
  not_set : List Pair → Transition
  wildcard : Transition

-- from a to b
abbrev pub pair_has : ℕ → ℕ → ℕ → Bool
pair_has a b q = leb a q && leb q b

unfoldable pub any_has : List Pair → ℕ → Bool
any_has [] q = false
any_has (a ∷ more) q = pair_has a.low a.high q || any_has more q

-- "a transition holds, by its record and not by these intervals: an atom its number, a range low to high, a set the listed pairs, a not-set
-- all else, a wildcard all"
unfoldable pub holds : Transition → ℕ → Bool
holds (atom k) p = eqb k (p + origin)
holds (range a b) p = pair_has a b (p + origin)
holds (set more) p = any_has more (p + origin)
holds (not_set more) p = not (any_has more (p + origin))
holds wildcard p = true

-- which transitions of a list hold a point
unfoldable pub hold_at : List Transition → ℕ → List Bool
hold_at [] p = []
hold_at (t ∷ ts) p = holds t p ∷ hold_at ts p

-- "Two lists are complements place by place when equally long and, at each place, exactly one holds each point."
abbrev pub Complement : List Transition → List Transition → Type 0
Complement [] [] = Unit {0}
Complement [] (u ∷ us) = ⊥
Complement (t ∷ ts) [] = ⊥
Complement (t ∷ ts) (u ∷ us) = ((p : ℕ) → p < points → holds u p ≡ not (holds t p)) × Complement ts us

-- "Sets have each low at most its high, and each next low above the last high": no low is below f
unfoldable pub orderly : ℕ → List Pair → Bool
orderly f [] = true
orderly f (a ∷ more) = pick (ltb a.low f) false (pick (ltb a.high a.low) false (orderly (a.high + 1) more))

-- the order is a set's and a not-set's: a range may be inverted
unfoldable pub in_order : Transition → Bool
in_order (atom k) = true
in_order (range a b) = true
in_order (set more) = orderly 0 more
in_order (not_set more) = orderly 0 more
in_order wildcard = true
