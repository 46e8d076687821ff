-- The laws of writing the ends of intervals. w is the list's bytes. Assumes nothing.
use mathlib.Core.Path.{◌≡◌, refl, ap}
use mathlib.Core.List.{List, [], ◌∷◌, ◌++◌, append-nil}
use mathlib.Core.Bool.{Bool, true, false}
use Prim.Native.Nat.{ℕ, suc, ◌+◌, ◌-◌, ◌*◌, ◌/◌, ◌<◌, ◌≤◌, max, min}
use Rattle.std.specs.Prelude.{Option, Some, None}
use native.Mathlib.Omega.{arith}
use borrow.Author.Rules.{rules}
use lib.ListN.{length, set, length-set}
use lib.Dec.{ltb}
use Rattle.refusal.specs.Lists.{pick}
use Rattle.buffer.specs.Over.{Put}
use Rattle.buffer.proofs.Going.{Going, going_start, going_done, going_room, going_turn, put_none, put_pair}
use Rattle.list_transitions.specs.Transition.{origin, points, beyond}
use Rattle.list_transitions.specs.Intervals.{Span, clip, clipped, clips, gaps, intervals, ends}
use Rattle.list_transitions.specs.Bytes.{number_at}
use Rattle.list_transitions.specs.Values.{transition_of, spans_of}
use Rattle.list_transitions.specs.declared.Value.{Value}
use Rattle.list_transitions.proofs.Pairs.{pairs_from, pairs_all, pairs_turn, pairs_done}
use Rattle.list_transitions.proofs.Values.{intervals_atom, intervals_range, intervals_set, intervals_not_set, intervals_wild}

-- One interval, or none

module _ {ss : List Span} {o : Option (ℕ × ℕ)} (e : ss ≡ spans_of o) where
  pub span_none : o ≡ None → (n : ℕ) (d : List ℕ) → Put (ends ss) n d n d
  unfolding ends
  span_none h n d = rw (e, h) (put_none n d)

  module _ {x y : ℕ} (h : o ≡ Some (x, y)) where
    both_ends : ends ss ≡ x ∷ y ∷ []
    unfolding ends
    both_ends = rw (e, h)

    module _ (n : ℕ) (d : List ℕ) (r : n + length (ends ss) ≤ length d) where
      span-room : n + 2 ≤ length d
      span-room = let is : length (ends ss) ≡ 2 = ap length both_ends in omega arith

      pub span_first : n < length d
      span_first = omega (arith, span-room)

      pub span_second : n + 1 < length (set d n x)
      span_second = omega (arith, span-room, length-set d n x)

      pub span_one : Put (ends ss) n d (n + 2) (set (set d n x) (n + 1) y)
      span_one = rw both_ends (put_pair x y n d span-room)

pub ruleset spans = (rules, span_none, span_one, span_first, span_second)

-- an interval in front of others
ends-clip : (a b : ℕ) (rest : List Span) → ends (clip a b rest) ≡ ends (clip a b []) ++ ends rest
unfolding clip ends
ends-clip a b rest = go (ltb (a - origin) (min (b - origin) points))
  where
    go : (t : Bool) → ends (pick t (clipped a b ∷ rest) rest) ≡ ends (pick t (clipped a b ∷ []) []) ++ ends rest
    go true = refl
    go false = refl

-- The loops over pairs

module _ (w : List ℕ) (i : ℕ) {low high : ℕ} (n : i < length w / 8) (a : low ≡ number_at w (8 * i)) (b : high ≡ number_at w (8 * i + 4)) where
  clips_open : ends (clips (pairs_from w i)) ≡ ends (clip low (high + 1) []) ++ ends (clips (pairs_from w (i + 1)))
  unfolding clips
  clips_open = let e : suc high ≡ high + 1 = omega arith in rw (pairs_turn w i n, ← a, ← b, e) (ends-clip low (high + 1) _)

  gaps_open : (next : ℕ) {after : ℕ} → after ≡ max next (high + 1) →
      ends (gaps next (pairs_from w i)) ≡ ends (clip next low []) ++ ends (gaps after (pairs_from w (i + 1)))
  unfolding gaps
  gaps_open next e = let f : suc high ≡ high + 1 = omega arith in rw (pairs_turn w i n, ← a, ← b, e, f) (ends-clip next low _)

  module _ (xs : List ℕ) (k : ℕ) (old : List ℕ) (m : ℕ) (out : List ℕ) where
    pub clips-room : Going xs k old (ends (clips (pairs_from w i))) m out → m + length (ends (clip low (high + 1) [])) ≤ length out
    clips-room g = going_room xs k old (ends (clips (pairs_from w (i + 1)))) m out (ends (clip low (high + 1) [])) (rw clips_open at g)

    pub clips_turn : {r : ℕ} {new : List ℕ} → Put (ends (clip low (high + 1) [])) m out r new →
        Going xs k old (ends (clips (pairs_from w i))) m out → Going xs k old (ends (clips (pairs_from w (i + 1)))) r new
    clips_turn p g = going_turn xs k old (ends (clips (pairs_from w (i + 1)))) m out (ends (clip low (high + 1) [])) p (rw clips_open at g)

    pub gaps-room : (next : ℕ) → Going xs k old (ends (gaps next (pairs_from w i))) m out → m + length (ends (clip next low [])) ≤ length out
    gaps-room next g =
        let rest : List ℕ = ends (gaps (max next (high + 1)) (pairs_from w (i + 1))) in
        going_room xs k old rest m out (ends (clip next low [])) (rw (gaps_open next refl) at g)

    pub gaps_turn : (next : ℕ) {after r : ℕ} {new : List ℕ} → Put (ends (clip next low [])) m out r new → after ≡ max next (high + 1) →
        Going xs k old (ends (gaps next (pairs_from w i))) m out → Going xs k old (ends (gaps after (pairs_from w (i + 1)))) r new
    gaps_turn next {after} p e g =
        going_turn xs k old (ends (gaps after (pairs_from w (i + 1)))) m out (ends (clip next low [])) p (rw (gaps_open next e) at g)

module _ (w : List ℕ) (i : ℕ) (n : length w / 8 ≤ i) (xs : List ℕ) (k : ℕ) (old : List ℕ) (m : ℕ) (out : List ℕ) where
  pub clips_done : Going xs k old (ends (clips (pairs_from w i))) m out → Put xs k old m out
  unfolding clips ends
  clips_done g = going_done xs k old (rw (pairs_done w i n) at g)

  gaps-last : (next : ℕ) → ends (gaps next (pairs_from w i)) ≡ ends (clip next beyond []) ++ []
  unfolding gaps
  gaps-last next = rw (pairs_done w i n, append-nil)

  pub gaps-left : (next : ℕ) → Going xs k old (ends (gaps next (pairs_from w i))) m out → m + length (ends (clip next beyond [])) ≤ length out
  gaps-left next g = going_room xs k old [] m out (ends (clip next beyond [])) (rw (gaps-last next) at g)

  pub gaps_done : (next : ℕ) {r : ℕ} {new : List ℕ} → Put (ends (clip next beyond [])) m out r new →
      Going xs k old (ends (gaps next (pairs_from w i))) m out → Put xs k old r new
  gaps_done next p g = going_done xs k old (going_turn xs k old [] m out (ends (clip next beyond [])) p (rw (gaps-last next) at g))

pub ruleset putting-clips = (rules, pairs_all, going_start, clips-room, clips_turn, clips_done)

pub ruleset putting-gaps = (rules, pairs_all, going_start, gaps-room, gaps_turn, gaps-left, gaps_done)

-- A value by its kind: there is room for the ends of its intervals, and they are written

module _ (v : Value) (n : ℕ) (d : List ℕ) {ss : List Span} where
  pub value-room : n + length (ends (intervals (transition_of v))) ≤ length d → intervals (transition_of v) ≡ ss → n + length (ends ss) ≤ length d
  value-room g e = rw e at g

  pub value_put : {r : ℕ} {new : List ℕ} → Put (ends ss) n d r new → intervals (transition_of v) ≡ ss →
      Put (ends (intervals (transition_of v))) n d r new
  value_put g e = rw e g

pub ruleset put-value = (rules, intervals_atom, intervals_range, intervals_set, intervals_not_set, intervals_wild, value-room, value_put)
