-- The laws of a mask word, and of the walk over records. w is the list's bytes, `at` a record's offset, n how many records stand from there
-- on. Assumes nothing.
use mathlib.Core.Path.{◌≡◌, refl, sym, ap, ◌∙◌}
use mathlib.Core.List.{List}
use mathlib.Core.Bool.{true}
use Prim.Native.Nat.{ℕ, zero, suc, ◌+◌, ◌*◌, ◌-◌, ◌^◌, ◌<◌, ◌≤◌}
use native.Mathlib.Omega.{arith}
use borrow.Author.Rules.{rules}
use lib.ListN.{length, get_or, take, drop}
use mir.Val.{Fits}
use mir.Syntax.{w64}
use Rattle.list_transitions.specs.Transition.{Transition, holds, hold_at, in_order}
use Rattle.list_transitions.specs.Bytes.{size_at, shape_of, trans_of}
use Rattle.list_transitions.specs.Walk.{trans_at, next_at, trans_from, Fit}
use Rattle.list_transitions.proofs.Values.{part-length, part-shape, part-trans}
use Rattle.list_masks.specs.Masks.{bit, word_of}
use Rattle.list_masks.specs.Walk.{next_of}
use Rattle.list_masks.proofs.Packs.{word_lt}

-- The first of n records, and the others

pub record First (w : List ℕ) (n at : ℕ) : Type 0 where
  pub there : next_at w at ≤ length w
  pub shape : shape_of (get_or w at 0) (size_at w (at + 1)) ≡ true
  pub order : in_order (trans_at w at) ≡ true
  pub rest : Fit w (n - 1) (next_at w at)

pub first : (w : List ℕ) (n at : ℕ) → (n ≡ 0 → ⊥) → Fit w n at → First w n at
unfolding Fit
first w zero at z s = absurd (z refl)
first w (suc n) at z s =
    let p : suc n - 1 ≡ n = omega arith in
    record { there = s.0; shape = s.1; order = s.2; rest = rw p s.3 }

pub nonzero : {n : ℕ} → 0 < n → n ≡ 0 → ⊥
nonzero h z = omega arith

-- A word: the first bit, and twice the word of the others

word_turn : (w : List ℕ) (n at point : ℕ) → (n ≡ 0 → ⊥) →
    word_of (hold_at (trans_from w n at) point) ≡ bit (holds (trans_at w at) point) + 2 * word_of (hold_at (trans_from w (n - 1) (next_at w at)) point)
unfolding word_of hold_at trans_from
word_turn w zero at point z = absurd (z refl)
word_turn w (suc n) at point z = let p : suc n - 1 ≡ n = omega arith in rw p

pub length_trans : (w : List ℕ) (n at : ℕ) → length (trans_from w n at) ≡ n
unfolding trans_from
length_trans w zero at = refl
length_trans w (suc n) at = ap suc (length_trans w n (next_at w at))

pub word_none : (w : List ℕ) (n at point : ℕ) → n ≡ 0 → 0 ≡ word_of (hold_at (trans_from w n at) point)
unfolding word_of hold_at trans_from
word_none w n at point z = rw z

module _ (w : List ℕ) (n at : ℕ) (s : Fit w n at) (z : n ≡ 0 → ⊥) where
  pub word_size : at + 1 + 2 ≤ length w
  word_size = omega (arith, (first w n at z s).there)

  pub word_here : at < length w
  word_here = omega (arith, (first w n at z s).there)

  pub word_first : Fit w 1 at
  unfolding Fit
  word_first = let f = first w n at z s in (f.there, f.shape, f.order, tt)

  module _ {k : ℕ} (e : k ≡ size_at w (at + 1)) where
    pub word_value : at + 3 + k ≤ length w
    word_value = rw e (first w n at z s).there

    pub word-rest : Fit w (n - 1) (at + 3 + k)
    word-rest = rw e (first w n at z s).rest

    module _ (point : ℕ) {t : Transition} {b more : ℕ} (f : n ≤ 64) (u : t ≡ trans_at w at) (j : b ≡ bit (holds t point))
        (g : more ≡ word_of (hold_at (trans_from w (n - 1) (at + 3 + k)) point)) where
      small : more < 2 ^ 63
      small = rw g (word_lt (trans_from w (n - 1) (at + 3 + k)) point (omega (arith, length_trans w (n - 1) (at + 3 + k))))

      pub word_double : Fits w64 (2 * more)
      word_double = omega (arith, small)

      pub word_sum : b ≤ 1 → Fits w64 (b + 2 * more)
      word_sum l = omega (arith, small)

      pub word_is : b + 2 * more ≡ word_of (hold_at (trans_from w n at) point)
      word_is = rw (j, u, g, e) (sym (word_turn w n at point z))

pub ruleset words = (rules, word_none, word_size, word_here, word_value, word-rest, word_first, word_double, word_sum, word_is)

-- The record that stands at `at`

module _ (w : List ℕ) (at : ℕ) (f : Fit w 1 at) {s : ℕ} (e : s ≡ size_at w (at + 1)) where
  here : First w 1 at
  here = first w 1 at (λ z. omega arith) f

  pub record_there : at + 3 + s ≤ length w
  record_there = rw e here.there

  abbrev value : List ℕ
  value = take (at + 3 + s - (at + 3)) (drop (at + 3) w)

  shape : shape_of (get_or w at 0) s ≡ true
  shape = rw e here.shape

  pub record_size : length value ≡ size_at w (at + 1)
  record_size = part-length w (at + 3) s _ record_there refl ∙ e

  pub record_fits : shape_of (get_or w at 0) (length value) ≡ true
  record_fits = part-shape w (at + 3) s _ record_there refl (get_or w at 0) ∙ shape

  pub record_is : trans_of value (get_or w at 0) (length value) 0 ≡ trans_at w at
  record_is =
      ap (λ (k : ℕ). trans_of value (get_or w at 0) k 0) (part-length w (at + 3) s _ record_there refl)
      ∙ part-trans w (at + 3) s _ record_there refl (get_or w at 0) shape
      ∙ ap (λ (k : ℕ). trans_of w (get_or w at 0) k (at + 3)) e

  pub record_order : in_order (trans_of value (get_or w at 0) (length value) 0) ≡ true
  record_order = ap in_order record_is ∙ here.order

next_turn : (w : List ℕ) (left here : ℕ) {all : ℕ} → (left ≡ 0 → ⊥) → next_of w left here ≡ all → next_of w (left - 1) (next_at w here) ≡ all
unfolding next_of
next_turn w zero here z r = absurd (z refl)
next_turn w (suc left) here z r = let p : suc left - 1 ≡ left = omega arith in rw p r

-- The loop that passes records: so many of n are left behind the first i

module _ (w : List ℕ) (n i here : ℕ) (l : i < n) where
  some : n - i ≡ 0 → ⊥
  some z = omega arith

  less : n - (i + 1) ≡ n - i - 1
  less = omega arith

  pub skip_size : Fit w (n - i) here → here + 1 + 2 ≤ length w
  skip_size s = word_size w (n - i) here s some

  module _ {k : ℕ} (e : k ≡ size_at w (here + 1)) where
    pub skip_value : Fit w (n - i) here → here + 3 + k ≤ length w
    skip_value s = word_value w (n - i) here s some e

    pub skip_rest : Fit w (n - i) here → Fit w (n - (i + 1)) (here + 3 + k)
    skip_rest s = rw less (word-rest w (n - i) here s some e)

    pub skip_turn : {all : ℕ} → next_of w (n - i) here ≡ all → next_of w (n - (i + 1)) (here + 3 + k) ≡ all
    skip_turn r = rw (e, less) (next_turn w (n - i) here some r)

pub skip_start : (w : List ℕ) (n at : ℕ) → Fit w n at → Fit w (n - 0) at × (next_of w (n - 0) at ≡ next_of w n at)
skip_start w n at s = let e : n - 0 ≡ n = omega arith in rw e (s, refl)

pub skip_done : (w : List ℕ) (n i here : ℕ) {all : ℕ} → n ≤ i → next_of w (n - i) here ≡ all → here ≡ all
unfolding next_of
skip_done w n i here l r = let z : n - i ≡ 0 = omega arith in rw z at r

pub ruleset skips = (rules, skip_start, skip_size, skip_value, skip_rest, skip_turn, skip_done)
