-- The laws of the test whether a record holds a point. w is the list's bytes, q a key. Assumes nothing.
use mathlib.Core.Path.{◌≡◌, refl, sym, ap, ◌∙◌}
use mathlib.Core.Logic.{⊎_elim}
use mathlib.Core.List.{List}
use mathlib.Core.Bool.{Bool, true, false, not, and-false, or-false, false≢true}
use Prim.Native.Nat.{ℕ, zero, suc, ◌+◌, ◌*◌, ◌-◌, ◌/◌, ◌<◌, ◌≤◌}
use native.Mathlib.Omega.{arith}
use borrow.Author.Rules.{rules}
use borrow.Author.Tests.{le-leb, lt-leb, le-ltb, lt-ltb, eqb-true, eqb-false, eq-eqb, ne_eqb}
use lib.Dec.{eqb, leb, ltb}
use mir.Val.{bool_byte}
use Rattle.refusal.specs.Lists.{pick}
use Rattle.list_transitions.specs.Transition.{Transition, atom, pair_has, any_has, holds, origin, orderly, in_order}
use Rattle.list_transitions.specs.Bytes.{number_at, pairs_at, shape_of, trans_of}
use Rattle.list_transitions.proofs.Order.{le_cases, both}
use Rattle.list_transitions.proofs.Holds.{Ordered, ordered}
use Rattle.list_masks.proofs.Tags.{pairs_turn, pairs_done, shape_2, trans_1, trans_2, trans_3, trans_4, trans_5}
use Rattle.list_masks.specs.Masks.{bit}
use Rattle.list_masks.specs.Walk.{low_at, high_at, Rises, Passed, Reach, Floor, last, Spans, by_low, Tells, Covers}

-- Any two pairs of a set in order

module _ (w : List ℕ) where
  later_low : (p k : ℕ) → low_at w (p + 8) k ≡ low_at w p (suc k)
  later_low p k = let e : p + 8 + 8 * k ≡ p + 8 * suc k = omega arith in ap (number_at w) e

  later_high : (p k : ℕ) → high_at w (p + 8) k ≡ high_at w p (suc k)
  later_high p k = let e : p + 8 + 8 * k + 4 ≡ p + 8 * suc k + 4 = omega arith in ap (number_at w) e

  first_low : (p : ℕ) → low_at w p 0 ≡ number_at w p
  first_low p = let e : p + 8 * 0 ≡ p = omega arith in ap (number_at w) e

  first_high : (p : ℕ) → high_at w p 0 ≡ number_at w (p + 4)
  first_high p = let e : p + 8 * 0 + 4 ≡ p + 4 = omega arith in ap (number_at w) e

  all_above : (n f p : ℕ) → Ordered f (pairs_at w n p) → (k : ℕ) → k < n → f ≤ low_at w p k
  unfolding pairs_at
  all_above zero f p o k h = absurd (omega arith)
  all_above (suc n) f p o zero h = omega (arith, o.0, first_low p)
  all_above (suc n) f p o (suc k) h = omega (arith, o.0, o.1, all_above n (suc (number_at w (p + 4))) (p + 8) o.2 k (omega arith), later_low p k)

  proper : (n f p : ℕ) → Ordered f (pairs_at w n p) → (k : ℕ) → k < n → low_at w p k ≤ high_at w p k
  unfolding pairs_at
  proper zero f p o k h = absurd (omega arith)
  proper (suc n) f p o zero h = omega (arith, o.1, first_low p, first_high p)
  proper (suc n) f p o (suc k) h = omega (arith, proper n (suc (number_at w (p + 4))) (p + 8) o.2 k (omega arith), later_low p k, later_high p k)

  apart : (n f p : ℕ) → Ordered f (pairs_at w n p) → (i k : ℕ) → i < k → k < n → high_at w p i < low_at w p k
  unfolding pairs_at
  apart zero f p o i k l h = absurd (omega arith)
  apart (suc n) f p o i zero l h = absurd (omega arith)
  apart (suc n) f p o zero (suc k) l h =
      omega (arith, all_above n (suc (number_at w (p + 4))) (p + 8) o.2 k (omega arith), later_low p k, first_high p)
  apart (suc n) f p o (suc i) (suc k) l h =
      omega (
        arith,
        apart n (suc (number_at w (p + 4))) (p + 8) o.2 i k (omega arith) (omega arith),
        later_high p i,
        later_low p k,
      )

  rising : (n p : ℕ) → orderly 0 (pairs_at w n p) ≡ true → Rises w n p
  rising n p e =
      let o : Ordered 0 (pairs_at w n p) = ordered 0 (pairs_at w n p) e in
      record { apart = apart n 0 p o; each = λ i k l h. omega (arith, apart n 0 p o i k l h, proper n 0 p o k h) }

  -- Those that end before the key do not hold it, nor do those that start behind it

  any_skip : (q r n p : ℕ) → r ≤ n → ((i : ℕ) → i < r → high_at w p i < q) →
      any_has (pairs_at w n p) q ≡ any_has (pairs_at w (n - r) (p + 8 * r)) q
  unfolding any_has pairs_at
  any_skip q zero n p l h =
      let e : n - 0 ≡ n = omega arith in
      let z : p + 8 * 0 ≡ p = omega arith in
      rw (e, z)
  any_skip q (suc r) zero p l h = absurd (omega arith)
  any_skip q (suc r) (suc n) p l h =
      let first : number_at w (p + 4) < q = omega (arith, h 0 (omega arith), first_high p) in
      let e : suc n - suc r ≡ n - r = omega arith in
      let z : p + 8 * suc r ≡ p + 8 + 8 * r = omega arith in
      rw (e, z, lt-leb q (number_at w (p + 4)) first, and-false)
      (any_skip q r n (p + 8) (omega arith) (λ i k. omega (arith, h (suc i) (omega arith), later_high p i)))

  any_none : (q n p : ℕ) → ((k : ℕ) → k < n → q < low_at w p k) → any_has (pairs_at w n p) q ≡ false
  unfolding any_has pairs_at
  any_none q zero p h = refl
  any_none q (suc n) p h =
      let first : q < number_at w p = omega (arith, h 0 (omega arith), first_low p) in
      rw (lt-leb (number_at w p) q first) (any_none q n (p + 8) (λ k l. omega (arith, h (suc k) (omega arith), later_low p k)))

-- The search for the pairs that end before the key

module _ (w : List ℕ) (n p q : ℕ) where
  pub seek_none : Passed w n p q 0
  seek_none = record { within = omega arith; before = λ i l. absurd (omega arith) }

  pub seek_hint : (hint : ℕ) {x : ℕ} → Rises w n p → (hint ≡ 0 → ⊥) → hint ≤ n → x ≡ number_at w (p + 8 * (hint - 1) + 4) →
      x < q → Passed w n p q hint
  seek_hint hint {x} o z l e h = record { within = l; before = before }
    where
      before : (i : ℕ) → i < hint → high_at w p i < q
      before i k =
          le_cases (hint - 1) i
          (λ g. let s : i ≡ hint - 1 = omega arith in rw s (omega arith))
          (λ g. omega (arith, o.each i (hint - 1) g (omega arith)))

  module _ (j : ℕ) (s : Passed w n p q j) where
    pub seek_hit : {x : ℕ} → q ≤ x → x ≡ number_at w (p + 8 * j + 4) → Reach w n p q j
    seek_hit h e = record { passed = s; after = λ _. omega arith }

    pub seek_end : n ≤ j → Reach w n p q n
    seek_end h = record { passed = record { within = omega arith; before = λ i l. s.before i (omega arith) }; after = λ l. absurd (omega arith) }

    pub seek_turn : {x : ℕ} → j < n → x < q → x ≡ number_at w (p + 8 * j + 4) → Passed w n p q (j + 1)
    seek_turn l h e = record { within = omega arith; before = before }
      where
        before : (i : ℕ) → i < j + 1 → high_at w p i < q
        before i k = le_cases j i (λ g. let t : i ≡ j = omega arith in rw t (omega arith)) (λ g. s.before i g)

pub ruleset seeks = (rules, seek_none, seek_hint, seek_hit, seek_end, seek_turn)

-- A key that j pairs end before, and that the next reaches

module _ (w : List ℕ) (n p j k : ℕ) (l : j ≤ n) (h : (i : ℕ) → i < j → high_at w p i < k) where
  skipped : any_has (pairs_at w n p) k ≡ any_has (pairs_at w (n - j) (p + 8 * j)) k
  skipped = any_skip w k j n p l h

  any_past : n ≤ j → any_has (pairs_at w n p) k ≡ false
  unfolding any_has
  any_past e = skipped ∙ rw (pairs_done w (n - j) (p + 8 * j) (omega arith))

  any_at : Rises w n p → j < n → k ≤ high_at w p j → any_has (pairs_at w n p) k ≡ leb (low_at w p j) k
  unfolding any_has
  any_at o g t =
      le_cases (low_at w p j) k
      (λ d. skipped ∙ rw (pairs_turn w (n - j) (p + 8 * j) (omega arith), le-leb (low_at w p j) k d, le-leb k (high_at w p j) t))
      (λ d. skipped ∙ any_none w k (n - j) (p + 8 * j) (above d) ∙ sym (lt-leb (low_at w p j) k d))
    where
      above : k < low_at w p j → (i : ℕ) → i < n - j → k < low_at w (p + 8 * j) i
      above d i m =
          let z : p + 8 * j + 8 * i ≡ p + 8 * (j + i) = omega arith in
          let e : low_at w (p + 8 * j) i ≡ low_at w p (j + i) = ap (number_at w) z in
          le_cases i 0
          (λ f. let y : j + i ≡ j = omega arith in let c : low_at w p (j + i) ≡ low_at w p j = ap (low_at w p) y in omega arith)
          (λ f. omega (arith, o.apart j (j + i) (omega arith) (omega arith)))

-- The span about a key

module _ (w : List ℕ) (n p q j : ℕ) (o : Rises w n p) (s : Reach w n p q j) {f : ℕ} (a : Floor w p j f) where
  before : (k : ℕ) → f ≤ k → (i : ℕ) → i < j → high_at w p i < k
  before k l i h =
      let e : f ≡ high_at w p (j - 1) + 1 = a.some (omega arith) in
      le_cases (j - 1) i
      (λ g. let t : i ≡ j - 1 = omega arith in rw t (omega arith))
      (λ g. omega (arith, o.each i (j - 1) g (omega (arith, s.passed.within))))

  below : f ≤ q
  below =
      le_cases j 0
      (λ z. omega (arith, a.none (omega arith)))
      (λ z. omega (arith, a.some z, s.passed.before (j - 1) (omega arith)))

  pub span_in : {x y : ℕ} → j < n → x ≡ number_at w (p + 8 * j) → y ≡ number_at w (p + 8 * j + 4) → Spans w n p q f x y
  span_in l d e =
      record {
        from = below;
        to = omega (arith, e, s.after l);
        each = λ k g h. rw d (any_at w n p j k s.passed.within (before k g) o l (omega (arith, e)));
      }

  pub span_past : n ≤ j → q ≤ last → Spans w n p q f (last + 1) last
  span_past l h =
      record {
        from = below;
        to = h;
        each = λ k g m. any_past w n p j k s.passed.within (before k g) l ∙ sym (lt-leb (last + 1) k (omega arith));
      }

pub ruleset spans = (rules, span_in, span_past)

-- An atom

module _ (x q : ℕ) where
  pub atom_in : q ≤ x → Covers (atom x) 1 q 0 x x
  unfolding holds by_low
  atom_in h =
      record {
        tells = record {
          each = λ point a b.
              le_cases x (point + origin)
              (λ c. eq-eqb x (point + origin) (omega arith) ∙ sym (le-leb x (point + origin) c))
              (λ c. ne_eqb x (point + origin) (λ e. omega arith) ∙ sym (lt-leb x (point + origin) c));
        };
        from = omega arith;
        to = h;
      }

  pub atom_past : x < q → q ≤ last → Covers (atom x) 1 q (x + 1) (last + 1) last
  unfolding holds by_low
  atom_past h l =
      record {
        tells = record { each = λ point a b. ne_eqb x (point + origin) (λ e. omega arith) ∙ sym (lt-leb (last + 1) (point + origin) (omega arith)) };
        from = omega arith;
        to = l;
      }

pub ruleset atoms = (rules, atom_in, atom_past)

-- A record by its tag

tag_cases : {C : Type 0} (a b : ℕ) → (a ≡ b → C) → ((a ≡ b → ⊥) → C) → C
tag_cases a b f g = ⊎_elim (λ (e : eqb a b ≡ true). f (eqb-true a b e)) (λ (e : eqb a b ≡ false). g (eqb-false a b e)) (both (eqb a b))

-- whatever is no atom, range, set or not-set is a wildcard
wildcard_shape : (tag size : ℕ) → (tag ≡ 1 → ⊥) → (tag ≡ 2 → ⊥) → (tag ≡ 3 → ⊥) → (tag ≡ 4 → ⊥) →
    shape_of tag size ≡ true → (tag ≡ 5) × (size ≡ 0)
unfolding shape_of
wildcard_shape tag size a b c d s = go (eqb tag 5) refl (rw (ne_eqb tag 1 a, ne_eqb tag 2 b, ne_eqb tag 3 c, ne_eqb tag 4 d) at s)
  where
    go : (t : Bool) → eqb tag 5 ≡ t → pick t (eqb size 0) false ≡ true → (tag ≡ 5) × (size ≡ 0)
    go true e h = (eqb-true tag 5 e, eqb-true size 0 h)
    go false e h = absurd (false≢true h)

module _ (w : List ℕ) (tag size p : ℕ) where
  order_of_3 : tag ≡ 3 → in_order (trans_of w tag size p) ≡ true → orderly 0 (pairs_at w (size / 8) p) ≡ true
  unfolding in_order
  order_of_3 h o = rw (trans_3 w tag size p h) at o

  order_of_4 : tag ≡ 4 → in_order (trans_of w tag size p) ≡ true → orderly 0 (pairs_at w (size / 8) p) ≡ true
  unfolding in_order
  order_of_4 h o = rw (trans_4 w tag size p h) at o

  one_pair : size ≤ 8 → Rises w (size / 8) p
  one_pair l = record { apart = λ i k x y. absurd (omega arith); each = λ i k x y. absurd (omega arith) }

  -- no other record has two pairs
  pub order_rises : (tag ≡ 1 → ⊥) → shape_of tag size ≡ true → in_order (trans_of w tag size p) ≡ true → Rises w (size / 8) p
  order_rises a s o =
      tag_cases tag 2
      (λ h. one_pair (omega (arith, shape_2 tag size s h)))
      (λ b.
      tag_cases tag 3
      (λ h. rising w (size / 8) p (order_of_3 h o))
      (λ c. tag_cases tag 4 (λ h. rising w (size / 8) p (order_of_4 h o)) (λ d. one_pair (omega (arith, (wildcard_shape tag size a b c d s).1)))))

  module _ (point : ℕ) where
    abbrev any : Bool
    any = any_has (pairs_at w (size / 8) p) (point + origin)

    -- any record but an atom holds what its pairs do, or what they do not
    by_pairs : (tag ≡ 1 → ⊥) → shape_of tag size ≡ true → holds (trans_of w tag size p) point ≡ pick (leb 4 tag) (not any) any
    unfolding holds any_has pairs_at
    by_pairs a s =
        tag_cases tag 2
        (λ h.
        let one : size / 8 ≡ 1 = omega (arith, shape_2 tag size s h) in
        rw (trans_2 w tag size p h, one, h) (sym (or-false (pair_has (number_at w p) (number_at w (p + 4)) (point + origin)))))
        (λ b.
        tag_cases tag 3
        (λ h. rw (trans_3 w tag size p h, h))
        (λ c.
        tag_cases tag 4
        (λ h. rw (trans_4 w tag size p h, h))
        (λ d.
        let l = wildcard_shape tag size a b c d s in
        let none : size / 8 ≡ 0 = omega (arith, l.1) in
        rw (trans_5 w tag size p a b c d, none, l.0))))

  not-leb : (low k : ℕ) → not (leb low k) ≡ ltb k low
  not-leb low k = le_cases low k (λ h. rw (le-leb low k h, le-ltb k low h)) (λ h. rw (lt-leb low k h, lt-ltb k low h))

  module _ {q floor low high : ℕ} where
    pub find_atom : {x : ℕ} → tag ≡ 1 → x ≡ number_at w p → Covers (atom x) 1 q floor low high → Covers (trans_of w tag size p) tag q floor low high
    find_atom h e g = rw (trans_1 w tag size p h, h, ← e) g

    pub find_pairs : (tag ≡ 1 → ⊥) → shape_of tag size ≡ true → Spans w (size / 8) p q floor low high →
        Covers (trans_of w tag size p) tag q floor low high
    unfolding by_low
    find_pairs a s g =
        record {
          tells = record {
            each = λ point l h.
                by_pairs point a s
                ∙ ap (λ (t : Bool). pick (leb 4 tag) (not t) t) (g.each (point + origin) l h)
                ∙ ap (λ (t : Bool). pick (leb 4 tag) t (leb low (point + origin))) (not-leb low (point + origin));
          };
          from = g.from;
          to = g.to;
        }

pub atom_size : (tag : ℕ) {size : ℕ} → shape_of tag size ≡ true → tag ≡ 1 → 4 ≤ size
unfolding shape_of
atom_size tag {size} s h = let l : size ≡ 4 = eqb-true size 4 (rw h at s) in omega arith

pub ruleset finding = (rules, order_rises, find_atom, find_pairs)

module _ (t : Transition) (tag : ℕ) where
  pub tells_none : Tells t tag 1 0 0
  tells_none = record { each = λ point a b. absurd (omega arith) }

  module _ {q floor low high : ℕ} where
    pub still_covers : Tells t tag floor low high → floor ≤ q → q ≤ high → Covers t tag q floor low high
    still_covers s a b = record { tells = s; from = a; to = b }

    pub held_is : (point : ℕ) {b : ℕ} → q ≡ point + origin → Covers t tag q floor low high → b ≡ bit (by_low tag low q) →
        b ≡ bit (holds t point)
    held_is point e c g = g ∙ ap bit (ap (by_low tag low) e ∙ sym (c.tells.each point (omega (arith, c.from)) (omega (arith, c.to))))

pub ruleset telling = (rules, still_covers, held_is)

-- The test by the tag

byte_bit : (b : Bool) → bool_byte b ≡ bit b
byte_bit true = refl
byte_bit false = refl

bit_small : (b : Bool) → bit b ≤ 1
bit_small true = omega arith
bit_small false = omega arith

module _ (tag low q : ℕ) {r : ℕ} where
  pub by_other : 4 ≤ tag → r ≡ bool_byte (ltb q low) → (r ≡ bit (by_low tag low q)) × (r ≤ 1)
  unfolding by_low
  by_other h e = rw (le-leb 4 tag h, e, byte_bit (ltb q low)) (refl, bit_small (ltb q low))

  pub by_same : tag < 4 → r ≡ bool_byte (leb low q) → (r ≡ bit (by_low tag low q)) × (r ≤ 1)
  unfolding by_low
  by_same h e = rw (lt-leb 4 tag h, e, byte_bit (leb low q)) (refl, bit_small (leb low q))

pub ruleset tests = (rules, by_other, by_same)
