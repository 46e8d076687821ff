-- A record by its tag: its length, its transition and its pairs. w is the value's bytes. Assumes nothing.
use mathlib.Core.Path.{◌≡◌, refl}
use mathlib.Core.List.{[], ◌∷◌, List}
use mathlib.Core.Bool.{true}
use Prim.Native.Nat.{ℕ, zero, suc, ◌+◌, ◌-◌, ◌/◌, ◌<◌, ◌≤◌}
use native.Mathlib.Nat.{not-suc-le-zero}
use native.Mathlib.Numerals.{sub-one}
use native.Mathlib.Omega.{arith}
use borrow.Author.Tests.{ne_eqb, eqb-true}
use Rattle.list_transitions.specs.Transition.{atom, range, set, not_set, wildcard}
use Rattle.list_transitions.specs.Bytes.{number_at, pair_at, pairs_at, shape_of, trans_of}

-- The length that a tag wants, and what lies in the bytes for it

module _ (tag size : ℕ) (e : shape_of tag size ≡ true) where
  pub shape_1 : tag ≡ 1 → size ≡ 4
  unfolding shape_of
  shape_1 h = eqb-true size 4 (rw h at e)

  pub shape_2 : tag ≡ 2 → size ≡ 8
  unfolding shape_of
  shape_2 h = eqb-true size 8 (rw h at e)

  pub value_1 : (p : ℕ) {m : ℕ} → tag ≡ 1 → p + size ≤ m → p + 4 ≤ m
  value_1 p h l = omega (arith, shape_1 h)

  pub value_2 : (p : ℕ) {m : ℕ} → tag ≡ 2 → p + size ≤ m → p + 4 ≤ m
  value_2 p h l = omega (arith, shape_2 h)

  pub value_high : (p : ℕ) {m : ℕ} → tag ≡ 2 → p + size ≤ m → p + 4 + 4 ≤ m
  value_high p h l = omega (arith, shape_2 h)

module _ (w : List ℕ) (tag size p : ℕ) where
  -- The transition of each tag

  pub trans_1 : tag ≡ 1 → trans_of w tag size p ≡ atom (number_at w p)
  unfolding trans_of
  trans_1 h = rw h

  pub trans_2 : tag ≡ 2 → trans_of w tag size p ≡ range (number_at w p) (number_at w (p + 4))
  unfolding trans_of
  trans_2 h = rw h

  pub trans_3 : tag ≡ 3 → trans_of w tag size p ≡ set (pairs_at w (size / 8) p)
  unfolding trans_of
  trans_3 h = rw h

  pub trans_4 : tag ≡ 4 → trans_of w tag size p ≡ not_set (pairs_at w (size / 8) p)
  unfolding trans_of
  trans_4 h = rw h

  pub trans_5 : (tag ≡ 1 → ⊥) → (tag ≡ 2 → ⊥) → (tag ≡ 3 → ⊥) → (tag ≡ 4 → ⊥) → trans_of w tag size p ≡ wildcard
  unfolding trans_of
  trans_5 a b c d = rw (ne_eqb tag 1 a, ne_eqb tag 2 b, ne_eqb tag 3 c, ne_eqb tag 4 d)

module _ (w : List ℕ) where
  -- The first pair and the others

  pub pairs_turn : (left here : ℕ) → 0 < left → pairs_at w left here ≡ pair_at w here ∷ pairs_at w (left - 1) (here + 8)
  unfolding pairs_at
  pairs_turn zero here h = absurd (not-suc-le-zero h)
  pairs_turn (suc n) here h = rw sub-one

  pub pairs_done : (left here : ℕ) → left ≤ 0 → pairs_at w left here ≡ []
  unfolding pairs_at
  pairs_done zero here h = refl
  pairs_done (suc n) here h = absurd (not-suc-le-zero h)
