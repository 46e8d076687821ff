-- DEMAND 3, first part: what is looked up at each point is what was given for exactly the transitions that hold it. ts is the list. Assumes nothing.
use Prim.Native.Nat.{ℕ, zero, suc, ◌+◌, ◌*◌, ◌/◌, ◌%◌, ◌<◌}
use mathlib.Core.Path.{◌≡◌, refl, sym, ap, ◌∙◌}
use mathlib.Core.Bool.{Bool, true, false, false≢true}
use mathlib.Core.List.{List, [], ◌∷◌}
use native.Mathlib.Omega.{arith}
use lib.ListN.{length, get_or}
use lib.Seq.{ext_get_or}
use borrow.Author.Tests.{eq-eqb, ne_eqb}
use Rattle.refusal.specs.Fixed.{NONE, DEAD-STATE}
use Rattle.list_transitions.specs.Transition.{Transition, hold_at}
use Rattle.list_transitions.specs.Read.{parse, is_parsed, accepted}
use Rattle.list_transitions.proofs.Accepted.{AllInOrder, listed}
use Rattle.list_masks.specs.Masks.{bit, pack, words_for, mask_of, is_zero, index, distinct_of, matrix}
use Rattle.list_segments.specs.Segments.{cuts_of, starts}
use Rattle.list_masks.proofs.Packs.{length_hold, every_mask}
use Rattle.list_masks.proofs.Keeps.{Has, every-distinct}
use Rattle.law_rows.specs.Build.{target_of}
use Rattle.law_rows.specs.Demand.{held_by, mask_bit, HoldersMask, Looked}
use Rattle.law_rows.proofs.Masks.{Blank, bit_inj, blank-zero, zero-blank, pack-bit}
use Rattle.law_rows.proofs.Distinct.{has_at, once_distinct, every_at}
use Rattle.law_rows.proofs.Built.{given-none, given_at, target_law, cont_law, place_law}

-- The bits of a point's mask

get_d_hold_at : (ts : List Transition) (i p : ℕ) → i < length ts → get_or (hold_at ts p) i false ≡ held_by ts i p
unfolding hold_at
get_d_hold_at [] i p h = absurd (omega arith)
get_d_hold_at (t ∷ ts) zero p h = refl
get_d_hold_at (t ∷ ts) (suc i) p h = get_d_hold_at ts i p (omega arith)

blank-each : (bs : List Bool) → ((i : ℕ) → i < length bs → get_or bs i false ≡ false) → Blank bs
blank-each [] f = tt
blank-each (b ∷ bs) f = (f 0 (omega arith), blank-each bs (λ i h. f (suc i) (omega arith)))

not-true : (b : Bool) → (b ≡ true → ⊥) → b ≡ false
not-true true f = absurd (f refl)
not-true false f = refl

-- a mask of some point
record Mask (ts : List Transition) (m : List ℕ) : Type 0 where
  point : ℕ
  is : m ≡ mask_of ts point

module _ (ts : List Transition) where
  -- bit i of a point's mask says whether transition i holds the point
  pub mask_exact : (p : ℕ) → HoldersMask ts p (mask_of ts p)
  unfolding mask_of
  mask_exact p i h =
      let parts : 64 * (i / 64) + i % 64 ≡ i = omega arith in
      pack-bit (words_for (length ts)) (hold_at ts p) (i / 64) (i % 64) (omega arith) (omega arith)
      ∙ ap (λ (j : ℕ). bit (get_or (hold_at ts p) j false)) parts
      ∙ ap bit (get_d_hold_at ts i p h)

  -- .. so that it is the mask of no other transitions
  mask_one : (p q : ℕ) → HoldersMask ts p (mask_of ts q) → mask_of ts q ≡ mask_of ts p
  unfolding mask_of
  mask_one p q e =
      ap (pack (words_for (length ts)))
      (ext_get_or false (hold_at ts q) (hold_at ts p) (length_hold ts q ∙ sym (length_hold ts p))
      (λ i h.
      let l : i < length ts = omega (arith, length_hold ts q) in
      get_d_hold_at ts i q l ∙ bit_inj (held_by ts i q) (held_by ts i p) (sym (mask_exact q i l) ∙ e i l) ∙ sym (get_d_hold_at ts i p l)))

  some_nonzero : (p i : ℕ) → i < length ts → held_by ts i p ≡ true → is_zero (mask_of ts p) ≡ false
  unfolding mask_of
  some_nonzero p i h y =
      not-true (is_zero (mask_of ts p))
      (λ e. false≢true (sym (zero-blank (words_for (length ts)) (hold_at ts p) i e (omega arith)) ∙ get_d_hold_at ts i p h ∙ y))

  none-zero : (p : ℕ) → ((i : ℕ) → i < length ts → held_by ts i p ≡ true → ⊥) → is_zero (mask_of ts p) ≡ true
  unfolding mask_of
  none-zero p n =
      blank-zero (words_for (length ts)) (hold_at ts p)
      (blank-each (hold_at ts p)
      (λ i h.
      let l : i < length ts = omega (arith, length_hold ts p) in
      get_d_hold_at ts i p l ∙ not-true (held_by ts i p) (n i l)))

  -- The distinct masks: each of some point, at its own place

  distinct_mask : (k : ℕ) → k < length (distinct_of ts) → Mask ts (get_or (distinct_of ts) k [])
  distinct_mask k h =
      let every = every_mask (Mask ts) ts (λ p. record { point = p; is = refl }) (starts (cuts_of ts)) in
      every_at (Mask ts) (distinct_of ts) k (every-distinct (Mask ts) [] (matrix ts) tt every) h

  distinct_once : (k : ℕ) → k < length (distinct_of ts) → index (distinct_of ts) (get_or (distinct_of ts) k []) ≡ k
  distinct_once = once_distinct [] (matrix ts) (λ k h. absurd (omega arith))

  alone : (p k : ℕ) → k < length (distinct_of ts) → HoldersMask ts p (get_or (distinct_of ts) k []) → k ≡ index (distinct_of ts) (mask_of ts p)
  alone p k h e =
      let m : Mask ts (get_or (distinct_of ts) k []) = distinct_mask k h in
      let same : get_or (distinct_of ts) k [] ≡ mask_of ts p = m.is ∙ mask_one p m.point (λ i l. ap (λ (x : List ℕ). mask_bit x i) (sym m.is) ∙ e i l) in
      sym (distinct_once k h) ∙ ap (index (distinct_of ts)) same

  -- THEOREM, over any list whose sets are in order
  pub looked : AllInOrder ts → (targets conts : List ℕ) → Looked ts targets conts
  looked a targets conts =
      record {
        held = λ p h i l y.
            let z : is_zero (mask_of ts p) ≡ false = some_nonzero p i l y in
            let k : ℕ = index (distinct_of ts) (mask_of ts p) in
            let has : Has (distinct_of ts) (mask_of ts p) = place_law ts a p h z in
            let t : target_of ts targets (mask_of ts p) ≡ get_or targets k DEAD-STATE = given_at DEAD-STATE (distinct_of ts) targets (mask_of ts p) z in
            record {
              place = k;
              within = has;
              exactly = λ j m. ap (λ (x : List ℕ). mask_bit x j) (has_at (distinct_of ts) (mask_of ts p) has) ∙ mask_exact p j m;
              alone = alone p;
              target = target_law ts targets a p h ∙ t;
              cont_dead = λ e. cont_law ts targets conts a p h ∙ rw (eq-eqb (target_of ts targets (mask_of ts p)) DEAD-STATE (t ∙ e));
              cont_live = λ n.
                  cont_law ts targets conts a p h
                  ∙ rw (ne_eqb (target_of ts targets (mask_of ts p)) DEAD-STATE (λ e. n (sym t ∙ e))) (given_at NONE (distinct_of ts) conts (mask_of ts p) z);
            };
        unheld = λ p h n.
            let z : is_zero (mask_of ts p) ≡ true = none-zero p n in
            let t : target_of ts targets (mask_of ts p) ≡ DEAD-STATE = given-none DEAD-STATE (distinct_of ts) targets (mask_of ts p) z in
            record {
              target = target_law ts targets a p h ∙ t;
              cont = cont_law ts targets conts a p h ∙ rw (eq-eqb (target_of ts targets (mask_of ts p)) DEAD-STATE t);
            };
      }

-- "For any accepted transition list": w is its bytes
pub accepted_looked : (w : List ℕ) → is_parsed (parse w) ≡ true → (targets conts : List ℕ) → Looked (accepted (parse w)) targets conts
accepted_looked w h = looked (accepted (parse w)) (listed w h).order
