-- The laws of the loops over the pairs of a set that judge their order and count their intervals. w is the list's bytes. Assumes nothing.
use mathlib.Core.Path.{◌≡◌, refl, sym, ap, ◌∙◌}
use mathlib.Core.List.{List, [], ◌∷◌}
use mathlib.Core.Bool.{Bool, true, false}
use Prim.Native.Nat.{ℕ, suc, ◌+◌, ◌*◌, ◌-◌, ◌/◌, ◌<◌, ◌≤◌, max, min}
use native.Mathlib.Nat.{sub-zero}
use native.Mathlib.Numerals.{add-one}
use native.Mathlib.Omega.{arith}
use borrow.Author.Rules.{rules}
use borrow.Author.Tests.{le-leb, lt-leb, lt-ltb, le-ltb, eq-eqb, ne_eqb}
use lib.ListN.{length}
use lib.Dec.{ltb}
use Rattle.refusal.specs.Lists.{pick}
use Rattle.list_transitions.specs.Transition.{Pair, origin, points, beyond, orderly}
use Rattle.list_transitions.specs.Intervals.{Span, clip, clipped, clips, gaps}
use Rattle.list_transitions.specs.Bytes.{number_at, pair_at, pairs_at, pairs_in}
use Rattle.list_transitions.specs.Values.{spans_of}

-- by the tests on the way
pub ruleset cases = (rules, le-leb, lt-leb, eq-eqb, ne_eqb, lt-ltb, le-ltb)

-- One interval, or none

pub clip-none : (a b : ℕ) → min (b - origin) points ≤ a - origin → clip a b [] ≡ []
unfolding clip
clip-none a b h = rw (le-ltb (a - origin) (min (b - origin) points) h)

pub clip_one : (a b : ℕ) → a - origin < min (b - origin) points → clip a b [] ≡ clipped a b ∷ []
unfolding clip
clip_one a b h = rw (lt-ltb (a - origin) (min (b - origin) points) h)

module _ (a b : ℕ) {x y z : ℕ} (f : x ≡ a - origin) (g : y ≡ b - origin) (h : z ≡ min y points) where
  pub cut_some : x < z → clip a b [] ≡ record { low = x; end = z } ∷ []
  cut_some k = clip_one a b (omega arith) ∙ (rw (f, h, g))

  pub cut-none : z ≤ x → clip a b [] ≡ []
  cut-none k = clip-none a b (omega arith)

pub ruleset cuts = (rules, cut_some, cut-none)

pub live_before : (a b : ℕ) → b ≤ origin → 0 ≡ length (clip a b [])
live_before a b h = sym (ap length (clip-none a b (omega arith)))

pub live_past : (a b : ℕ) → beyond ≤ a → 0 ≡ length (clip a b [])
live_past a b h = sym (ap length (clip-none a b (omega arith)))

pub live_empty : (a b : ℕ) → b ≤ a → 0 ≡ length (clip a b [])
live_empty a b h = sym (ap length (clip-none a b (omega arith)))

pub live_one : (a b : ℕ) → origin < b → a < beyond → a < b → 1 ≡ length (clip a b [])
live_one a b h k l = sym (ap length (clip_one a b (omega arith)))

pub ruleset lives = (rules, live_before, live_past, live_empty, live_one)

pub length-clip : (a b : ℕ) (rest : List Span) → length (clip a b rest) ≡ length (clip a b []) + length rest
unfolding clip
length-clip a b rest = go (ltb (a - origin) (min (b - origin) points))
  where
    go : (t : Bool) → length (pick t (clipped a b ∷ rest) rest) ≡ length (pick t (clipped a b ∷ []) []) + length rest
    go true = omega arith
    go false = omega arith

-- The pairs from the one at i on

unfoldable pub pairs_from : List ℕ → ℕ → List Pair
pairs_from w i = pairs_at w (length w / 8 - i) (8 * i)

pairs_open : (w : List ℕ) (n p : ℕ) → pairs_at w (suc n) p ≡ pair_at w p ∷ pairs_at w n (p + 8)
unfolding pairs_at
pairs_open w n p = refl

pairs_none : (w : List ℕ) (p : ℕ) → pairs_at w 0 p ≡ []
unfolding pairs_at
pairs_none w p = refl

module _ (w : List ℕ) where
  pub pairs_all : pairs_from w 0 ≡ pairs_in w
  unfolding pairs_from
  pairs_all = rw sub-zero

  pub pairs_turn : (i : ℕ) → i < length w / 8 → pairs_from w i ≡ pair_at w (8 * i) ∷ pairs_from w (i + 1)
  unfolding pairs_from
  pairs_turn i h =
      let one : length w / 8 - i ≡ suc (length w / 8 - (i + 1)) = omega arith in
      let on : 8 * i + 8 ≡ 8 * (i + 1) = omega arith in
      rw (one, ← on) (pairs_open w (length w / 8 - (i + 1)) (8 * i))

  pub pairs_done : (i : ℕ) → length w / 8 ≤ i → pairs_from w i ≡ []
  unfolding pairs_from
  pairs_done i h =
      let none : length w / 8 - i ≡ 0 = omega arith in
      rw none (pairs_none w (8 * i))

  -- The loop that judges the order

  module _ (f i : ℕ) {low high : ℕ} {all : Bool} (n : i < length w / 8) (a : low ≡ number_at w (8 * i)) (b : high ≡ number_at w (8 * i + 4)) where
    pub order_low : low < f → orderly f (pairs_from w i) ≡ all → false ≡ all
    unfolding orderly
    order_low h e = rw (pairs_turn i n, ← a, lt-ltb low f h) at e

    pub order_high : f ≤ low → high < low → orderly f (pairs_from w i) ≡ all → false ≡ all
    unfolding orderly
    order_high g h e = rw (pairs_turn i n, ← a, ← b, le-ltb low f g, lt-ltb high low h) at e

    pub order_turn : f ≤ low → low ≤ high → orderly f (pairs_from w i) ≡ all → orderly (high + 1) (pairs_from w (i + 1)) ≡ all
    unfolding orderly
    order_turn g h e = rw (pairs_turn i n, ← a, ← b, le-ltb low f g, le-ltb high low h) at e

  pub order_done : (f i : ℕ) {all : Bool} → length w / 8 ≤ i → orderly f (pairs_from w i) ≡ all → true ≡ all
  unfolding orderly
  order_done f i n e = rw (pairs_done i n) at e

  -- The loops that count

  pub clips_turn : (i found : ℕ) {low high r all : ℕ} → i < length w / 8 → low ≡ number_at w (8 * i) → high ≡ number_at w (8 * i + 4) →
      r ≡ length (clip low (high + 1) []) →
      found + length (clips (pairs_from w i)) ≡ all → found + r + length (clips (pairs_from w (i + 1))) ≡ all
  unfolding clips
  clips_turn i found {low} {high} {r} n a b e k =
      let one : length (clips (pairs_from w i)) ≡ length (clip (number_at w (8 * i)) (suc (number_at w (8 * i + 4))) []) + length (clips (pairs_from w (i + 1)))
      = rw (pairs_turn i n) (length-clip _ _ _) in
      let r' : r ≡ length (clip (number_at w (8 * i)) (suc (number_at w (8 * i + 4))) []) = e ∙ (rw (add-one, a, b)) in
      omega arith

  pub clips_done : (i found : ℕ) {all : ℕ} → length w / 8 ≤ i → found + length (clips (pairs_from w i)) ≡ all → found ≡ all
  unfolding clips
  clips_done i found n k = let j = rw (pairs_done i n) at k in omega arith

  pub gaps_turn : (i next found : ℕ) {low high r after all : ℕ} → i < length w / 8 → low ≡ number_at w (8 * i) →
      high ≡ number_at w (8 * i + 4) → r ≡ length (clip next low []) → after ≡ max next (high + 1) →
      found + length (gaps next (pairs_from w i)) ≡ all →
      found + r + length (gaps after (pairs_from w (i + 1))) ≡ all
  unfolding gaps
  gaps_turn i next found {low} {high} {r} {after} n a b e g k =
      let one : length (gaps next (pairs_from w i))
      ≡ length (clip next (number_at w (8 * i)) []) + length (gaps (max next (suc (number_at w (8 * i + 4)))) (pairs_from w (i + 1)))
      = rw (pairs_turn i n) (length-clip _ _ _) in
      let r' : r ≡ length (clip next (number_at w (8 * i)) []) = e ∙ (rw a) in
      let f : after ≡ max next (suc (number_at w (8 * i + 4))) = g ∙ (rw (add-one, b)) in
      rw f (omega arith)

  pub gaps_done : (i next found : ℕ) {r all : ℕ} → length w / 8 ≤ i → r ≡ length (clip next beyond []) →
      found + length (gaps next (pairs_from w i)) ≡ all → found + r ≡ all
  unfolding gaps
  gaps_done i next found {r} n e k =
      let one : length (gaps next (pairs_from w i)) ≡ length (clip next beyond []) = rw (pairs_done i n) in omega arith

pub ruleset order = (rules, pairs_all, order_low, order_high, order_turn, order_done)

pub ruleset counts = (rules, pairs_all, clips_turn, clips_done, gaps_turn, gaps_done)
