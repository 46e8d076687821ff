-- INTERVAL LAW: the intervals of a transition in order hold a point where the record does, and no interval passes the last point. Assumes
-- nothing.
use Prim.Native.Nat.{ℕ, suc, ◌+◌, ◌-◌, ◌≤◌, ◌<◌, max, min}
use mathlib.Core.Path.{◌≡◌, refl, ap, ap₂, ◌∙◌}
use mathlib.Core.Bool.{Bool, true, false, not, ◌&&◌, ◌||◌, and-false, or-false}
use mathlib.Core.List.{List, [], ◌∷◌}
use native.Mathlib.Omega.{arith}
use lib.Dec.{leb, ltb, eqb, leb-suc-suc}
use borrow.Author.Tests.{lt-ltb, le-ltb, le-leb, lt-leb, eq-eqb, ne_eqb}
use Rattle.list_transitions.specs.Transition.{Pair, Transition, atom, range, set, not_set, wildcard, origin, points, beyond}
use Rattle.list_transitions.specs.Transition.{pair_has, any_has, holds, hold_at, orderly, in_order}
use Rattle.list_transitions.specs.Intervals.{Span, in_span, within, clip, clipped, clips, gaps, intervals, all_intervals, bits_at, Spans, Lists}
use Rattle.list_transitions.proofs.Order.{le_cases, leb_same}
use Rattle.list_transitions.proofs.Accepted.{AllInOrder}

-- What a cut interval holds

clipped_has : (a b p : ℕ) → p < points → in_span (clipped a b) p ≡ (leb a (p + origin) && ltb (p + origin) b)
clipped_has a b p h =
    ap₂ ◌&&◌
    (leb_same (a - origin) p a (p + origin) (λ k. omega arith) (λ k. omega arith))
    (leb_same (suc p) (min (b - origin) points) (suc (p + origin)) b (λ k. omega arith) (λ k. omega arith))

empty-span : (s : Span) (p : ℕ) → s.end ≤ s.low → in_span s p ≡ false
empty-span s p h =
    le_cases s.low p
    (λ k. rw (le-ltb p s.end (omega arith), and-false))
    (λ k. rw (lt-leb s.low p k))

within-clip : (a b : ℕ) (rest : List Span) (p : ℕ) → p < points →
    within (clip a b rest) p ≡ ((leb a (p + origin) && ltb (p + origin) b) || within rest p)
unfolding within clip
within-clip a b rest p h =
    le_cases (min (b - origin) points) (a - origin)
    (λ k. rw (le-ltb (a - origin) (min (b - origin) points) k) (rw (← clipped_has a b p h, empty-span (clipped a b) p k)))
    (λ k. rw (lt-ltb (a - origin) (min (b - origin) points) k) (ap (λ (t : Bool). t || within rest p) (clipped_has a b p h)))

-- a closed range, clipped
within-closed : (a b : ℕ) (rest : List Span) (p : ℕ) → p < points →
    within (clip a (suc b) rest) p ≡ (pair_has a b (p + origin) || within rest p)
within-closed a b rest p h =
    within-clip a (suc b) rest p h ∙ ap (λ (t : Bool). (leb a (p + origin) && t) || within rest p) (leb-suc-suc (p + origin) b)

within-clips : (more : List Pair) (p : ℕ) → p < points → within (clips more) p ≡ any_has more (p + origin)
unfolding clips any_has within
within-clips [] p h = refl
within-clips (a ∷ more) p h =
    within-closed a.low a.high (clips more) p h ∙ ap (λ (t : Bool). pair_has a.low a.high (p + origin) || t) (within-clips more p h)

-- In order, as facts of the numbers

abbrev pub Ordered : ℕ → List Pair → Type 0
Ordered f [] = Unit {0}
Ordered f (a ∷ more) = (f ≤ a.low) × (a.low ≤ a.high) × Ordered (suc a.high) more

pub ordered : (f : ℕ) (more : List Pair) → orderly f more ≡ true → Ordered f more
unfolding orderly
ordered f [] e = tt
ordered f (a ∷ more) e =
    le_cases f a.low
    (λ h.
    le_cases a.low a.high
    (λ g.
    let s : a.high + 1 ≡ suc a.high = omega arith in
    (h, g, rw s at (ordered (a.high + 1) more (rw (le-ltb a.low f h, le-ltb a.high a.low g) at e))))
    (λ g. let z : ◌≡◌ {A = ℕ} 0 1 = cc (rw (le-ltb a.low f h, lt-ltb a.high a.low g) at e) in absurd (omega arith)))
    (λ h. let z : ◌≡◌ {A = ℕ} 0 1 = cc (rw (lt-ltb a.low f h) at e) in absurd (omega arith))

any_below : (f : ℕ) (more : List Pair) (q : ℕ) → Ordered f more → q < f → any_has more q ≡ false
unfolding any_has
any_below f [] q o h = refl
any_below f (a ∷ more) q o h = rw (lt-leb a.low q (omega arith)) (any_below (suc a.high) more q o.2 (omega arith))

-- the Boolean core of a gap, by where q stands to the pair a..b
gap_step : (next a b q : ℕ) (rest : Bool) → a ≤ b → (q < a → rest ≡ false) →
    ((leb next q && ltb q a) || (leb (max next (suc b)) q && not rest)) ≡ (leb next q && not (pair_has a b q || rest))
gap_step next a b q rest o z =
    le_cases a q
    (λ l.
    le_cases q b
    (λ g. rw (le-ltb q a l, lt-leb (max next (suc b)) q (omega arith), le-leb a q l, le-leb q b g, or-false))
    (λ g.
    rw (
      le-ltb q a l,
      leb_same (max next (suc b)) q next q (λ k. omega arith) (λ k. omega arith),
      le-leb a q l,
      lt-leb q b g,
      and-false,
    )))
    (λ l. rw (lt-ltb q a l, lt-leb (max next (suc b)) q (omega arith), lt-leb a q l, z l, or-false))

within-gaps : (f next : ℕ) (more : List Pair) (p : ℕ) → Ordered f more → p < points →
    within (gaps next more) p ≡ (leb next (p + origin) && not (any_has more (p + origin)))
unfolding gaps any_has within
within-gaps f next [] p o h = within-clip next beyond [] p h ∙ rw (lt-ltb (p + origin) beyond (omega arith), or-false)
within-gaps f next (a ∷ more) p o h =
    within-clip next a.low (gaps (max next (suc a.high)) more) p h
    ∙ ap (λ (t : Bool). (leb next (p + origin) && ltb (p + origin) a.low) || t) (within-gaps (suc a.high) (max next (suc a.high)) more p o.2 h)
    ∙ gap_step next a.low a.high (p + origin) (any_has more (p + origin)) o.1 (λ l. any_below (suc a.high) more (p + origin) o.2 (omega arith))

one_point : (k q : ℕ) → pair_has k k q ≡ eqb k q
one_point k q =
    le_cases k q
    (λ l.
    le_cases q k
    (λ g. rw (le-leb k q l, le-leb q k g, eq-eqb k q (omega arith)))
    (λ g. rw (le-leb k q l, lt-leb q k g, ne_eqb k q (omega arith))))
    (λ l. rw (lt-leb k q l, ne_eqb k q (omega arith)))

-- the intervals hold a point where the record does
pub intervals_hold : (t : Transition) (p : ℕ) → in_order t ≡ true → p < points → within (intervals t) p ≡ holds t p
unfolding intervals holds within in_order
intervals_hold (atom k) p o h = within-closed k k [] p h ∙ or-false _ ∙ one_point k (p + origin)
intervals_hold (range a b) p o h = within-closed a b [] p h ∙ or-false _
intervals_hold (set more) p o h = within-clips more p h
intervals_hold (not_set more) p o h = within-gaps 0 origin more p (ordered 0 more o) h ∙ rw (le-leb origin (p + origin) (omega arith))
intervals_hold wildcard p o h =
    within-clip origin beyond [] p h ∙ rw (le-leb origin (p + origin) (omega arith), lt-ltb (p + origin) beyond (omega arith))

-- No interval passes the last point

clip_le : (a b : ℕ) (rest : List Span) → Spans (λ x. x ≤ points) rest → Spans (λ x. x ≤ points) (clip a b rest)
unfolding clip
clip_le a b rest h =
    le_cases (min (b - origin) points) (a - origin)
    (λ k. rw (le-ltb (a - origin) (min (b - origin) points) k) h)
    (λ k. rw (lt-ltb (a - origin) (min (b - origin) points) k) (omega arith, omega arith, h))

clips_le : (more : List Pair) → Spans (λ x. x ≤ points) (clips more)
unfolding clips
clips_le [] = tt
clips_le (a ∷ more) = clip_le a.low (suc a.high) (clips more) (clips_le more)

gaps_le : (next : ℕ) (more : List Pair) → Spans (λ x. x ≤ points) (gaps next more)
unfolding gaps
gaps_le next [] = clip_le next beyond [] tt
gaps_le next (a ∷ more) = clip_le next a.low (gaps (max next (suc a.high)) more) (gaps_le (max next (suc a.high)) more)

pub intervals_le : (t : Transition) → Spans (λ x. x ≤ points) (intervals t)
unfolding intervals
intervals_le (atom k) = clip_le k (suc k) [] tt
intervals_le (range a b) = clip_le a (suc b) [] tt
intervals_le (set more) = clips_le more
intervals_le (not_set more) = gaps_le origin more
intervals_le wildcard = clip_le origin beyond [] tt

-- The same of a list

pub bits_hold : (ts : List Transition) (p : ℕ) → AllInOrder ts → p < points → bits_at (all_intervals ts) p ≡ hold_at ts p
unfolding bits_at hold_at all_intervals
bits_hold [] p a h = refl
bits_hold (t ∷ ts) p a h = ap₂ {C = List Bool} (λ b bs. b ∷ bs) (intervals_hold t p a.0 h) (bits_hold ts p a.1 h)

pub intervals_all_le : (ts : List Transition) → Lists (λ x. x ≤ points) (all_intervals ts)
unfolding all_intervals
intervals_all_le [] = tt
intervals_all_le (t ∷ ts) = (intervals_le t, intervals_all_le ts)
