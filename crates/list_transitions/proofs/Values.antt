-- A value by its kind: its transition, its order, its intervals and how many they are. Assumes nothing.
use mathlib.Core.Path.{◌≡◌, refl, sym, ap, ap₂, ◌∙◌}
use denote.Bor.{Bor}
use borrow.Author.Tests.{ne_eqb, eqb-true}
use mathlib.Core.List.{List, []}
use mathlib.Core.Bool.{Bool, true, false}
use Prim.Native.Nat.{ℕ, zero, suc, ◌+◌, ◌-◌, ◌*◌, ◌/◌, ◌≤◌, ◌<◌}
use native.Mathlib.Numerals.{add-one}
use native.Mathlib.Omega.{arith}
use borrow.Author.Rules.{rules}
use lib.ListN.{length, get_or, take, drop, length-drop}
use Rattle.std.proofs.lemmas.List.{length-take-le, get_or-take, get_or-drop}
use lib.Dec.{eqb}
use Rattle.refusal.specs.Lists.{pick}
use Rattle.list_transitions.specs.Transition.{atom, range, set, not_set, key, origin, beyond, orderly, in_order}
use Rattle.list_transitions.specs.Intervals.{Span, clip, clips, gaps, intervals}
use Rattle.list_transitions.specs.Bytes.{number_at, pairs_at, pairs_in, shape_of, trans_of}
use Rattle.list_transitions.specs.Values.{transition_of, Says}
use Rattle.list_transitions.specs.declared.Value.{Value}
use Rattle.list_transitions.specs.declared.Value.TheVariants.{Atom, Range, Set, NotSet, Wildcard}

-- How many intervals there are

pub count_of : (v : Value) {r : ℕ} {ss : List Span} → r ≡ length ss → intervals (transition_of v) ≡ ss → r ≡ length (intervals (transition_of v))
count_of v e i = e ∙ sym (ap length i)

module _ {v : Value} where
  -- Its order

  pub order_atom : {k : ℕ} → v ≡ Atom k → true ≡ in_order (transition_of v)
  unfolding in_order
  order_atom e = rw e

  pub order_range : {a b : ℕ} → v ≡ Range a b → true ≡ in_order (transition_of v)
  unfolding in_order
  order_range e = rw e

  pub order_set : {s : Bor (List ℕ)} {r : Bool} → v ≡ Set s → r ≡ orderly 0 (pairs_in s.now) → r ≡ in_order (transition_of v)
  unfolding in_order
  order_set e h = rw e h

  pub order_not_set : {s : Bor (List ℕ)} {r : Bool} → v ≡ NotSet s → r ≡ orderly 0 (pairs_in s.now) → r ≡ in_order (transition_of v)
  unfolding in_order
  order_not_set e h = rw e h

  pub order_wild : v ≡ Wildcard → true ≡ in_order (transition_of v)
  unfolding in_order
  order_wild e = rw e

  -- Its intervals

  pub intervals_atom : {k low high : ℕ} → v ≡ Atom k → low ≡ k → high ≡ k → intervals (transition_of v) ≡ clip low (high + 1) []
  unfolding intervals
  intervals_atom e a b = rw (e, a, b, add-one)

  pub intervals_range : {a b low high : ℕ} → v ≡ Range a b → low ≡ a → high ≡ b → intervals (transition_of v) ≡ clip low (high + 1) []
  unfolding intervals
  intervals_range e a b = rw (e, a, b, add-one)

  pub intervals_set : {s : Bor (List ℕ)} → v ≡ Set s → intervals (transition_of v) ≡ clips (pairs_in s.now)
  unfolding intervals
  intervals_set e = rw e

  pub intervals_not_set : {s : Bor (List ℕ)} → v ≡ NotSet s → intervals (transition_of v) ≡ gaps origin (pairs_in s.now)
  unfolding intervals
  intervals_not_set e = rw e

  pub intervals_wild : v ≡ Wildcard → intervals (transition_of v) ≡ clip origin beyond []
  unfolding intervals
  intervals_wild e = rw e

  pub count_wild : v ≡ Wildcard → 1 ≡ length (intervals (transition_of v))
  unfolding clip
  count_wild e = sym (ap length (intervals_wild e))

pub ruleset orders = (rules, order_atom, order_range, order_set, order_not_set, order_wild)

pub ruleset counted-by-kind = (rules, intervals_atom, intervals_range, intervals_set, intervals_not_set, count_of, count_wild)

-- What is read of a tag and bytes

module _ (tag : ℕ) (w : List ℕ) where
  pub no_shape : {s : Bool} → s ≡ shape_of tag (length w) → s ≡ false → shape_of tag (length w) ≡ false
  no_shape e h = sym e ∙ h

  module _ {s : Bool} (e : s ≡ shape_of tag (length w)) (g : s ≡ true) where
    fits : shape_of tag (length w) ≡ true
    fits = sym e ∙ g

    pub atom_bytes : tag ≡ 1 → 4 ≤ length w
    unfolding shape_of
    atom_bytes h = let l : length w ≡ 4 = eqb-true (length w) 4 (rw h at fits) in omega arith

    pub range_bytes : tag ≡ 2 → 8 ≤ length w
    unfolding shape_of
    range_bytes h = let l : length w ≡ 8 = eqb-true (length w) 8 (rw h at fits) in omega arith

    pub says_atom : {k : ℕ} → tag ≡ 1 → k ≡ number_at w 0 → Says tag w (Atom k)
    unfolding trans_of
    says_atom h a = record { shape = fits; is = rw (h, a) }

    pub says_range : {a b : ℕ} → tag ≡ 2 → a ≡ number_at w 0 → b ≡ number_at w 4 → Says tag w (Range a b)
    unfolding trans_of
    says_range h a b = record { shape = fits; is = rw (h, a, b) }

    pub says_set : {v : Bor (List ℕ)} → tag ≡ 3 → v.now ≡ w → Says tag w (Set v)
    unfolding trans_of
    says_set h a = record { shape = fits; is = rw (h, a) }

    pub says_not_set : {v : Bor (List ℕ)} → tag ≡ 4 → v.now ≡ w → Says tag w (NotSet v)
    unfolding trans_of
    says_not_set h a = record { shape = fits; is = rw (h, a) }

    pub says_wild : (tag ≡ 1 → ⊥) → (tag ≡ 2 → ⊥) → (tag ≡ 3 → ⊥) → (tag ≡ 4 → ⊥) → Says tag w Wildcard
    unfolding trans_of
    says_wild a b c d = record { shape = fits; is = rw (ne_eqb tag 1 a, ne_eqb tag 2 b, ne_eqb tag 3 c, ne_eqb tag 4 d) }

pub ruleset values = (rules, no_shape, atom_bytes, range_bytes, says_atom, says_range, says_set, says_not_set, says_wild)

pick_both : {A : Type 0} (b : Bool) {x y z t : A} → (b ≡ true → x ≡ z) → (b ≡ false → y ≡ t) → pick b x y ≡ pick b z t
pick_both true f g = f refl
pick_both false f g = g refl

-- A value's bytes stand in those of the list: from p to before n, `size` of them

module _ (w : List ℕ) (p size n : ℕ) (l : p + size ≤ length w) (e : n ≡ p + size) where
  abbrev part : List ℕ
  part = take (n - p) (drop p w)

  pub part-length : length part ≡ size
  part-length = let k : n - p ≡ size = omega arith in rw k (let a = length-drop p w in length-take-le size (drop p w) (omega arith))

  part-byte : (i j : ℕ) → i < size → j ≡ p + i → get_or part i 0 ≡ get_or w j 0
  part-byte i j h a = get_or-take (n - p) (drop p w) i 0 (omega arith) ∙ get_or-drop p w i 0 ∙ ap (λ (k : ℕ). get_or w k 0) (sym a)

  part-number : (i j : ℕ) → i + 4 ≤ size → j ≡ p + i → number_at part i ≡ number_at w j
  unfolding number_at
  part-number i j h a =
      let b0 = part-byte i j (omega arith) a in
      let b1 = part-byte (i + 1) (j + 1) (omega arith) (omega arith) in
      let b2 = part-byte (i + 2) (j + 2) (omega arith) (omega arith) in
      let b3 = part-byte (i + 3) (j + 3) (omega arith) (omega arith) in
      ap (λ (n : ℕ). key n) (omega arith)

  part-pairs : (k i j : ℕ) → i + 8 * k ≤ size → j ≡ p + i → pairs_at part k i ≡ pairs_at w k j
  unfolding pairs_at
  part-pairs zero i j h a = refl
  part-pairs (suc k) i j h a =
      let x = part-number i j (omega arith) a in
      let y = part-number (i + 4) (j + 4) (omega arith) (omega arith) in
      rw (x, y, part-pairs k (i + 8) (j + 8) (omega arith) (omega arith))

  pub part-trans : (tag : ℕ) → shape_of tag size ≡ true → trans_of part tag size 0 ≡ trans_of w tag size p
  unfolding trans_of shape_of
  part-trans tag s =
      pick_both (eqb tag 1)
      (λ h.
      let t : tag ≡ 1 = eqb-true tag 1 h in
      let k : size ≡ 4 = eqb-true size 4 (rw t at s) in
      ap atom (part-number 0 p (omega arith) (omega arith)))
      (λ _.
      pick_both (eqb tag 2)
      (λ h.
      let t : tag ≡ 2 = eqb-true tag 2 h in
      let k : size ≡ 8 = eqb-true size 8 (rw t at s) in
      ap₂ range (part-number 0 p (omega arith) (omega arith)) (part-number 4 (p + 4) (omega arith) (omega arith)))
      (λ _. pick_both (eqb tag 3) (λ _. ap set all_pairs) (λ _. pick_both (eqb tag 4) (λ _. ap not_set all_pairs) (λ _. refl))))
    where
      all_pairs : pairs_at part (size / 8) 0 ≡ pairs_at w (size / 8) p
      all_pairs = part-pairs (size / 8) 0 p (omega arith) (omega arith)

  -- what is read of them, as the list's own bytes say it
  pub part-shape : (tag : ℕ) → shape_of tag (length part) ≡ shape_of tag size
  part-shape tag = ap (shape_of tag) part-length

  pub part-says : {tag : ℕ} {v : Value} → Says tag part v → (shape_of tag size ≡ true) × (transition_of v ≡ trans_of w tag size p)
  part-says {tag} {v} s =
      let f : shape_of tag size ≡ true = rw part-length at s.shape in
      (f, (rw part-length at s.is) ∙ part-trans tag f)
