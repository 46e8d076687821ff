-- DEMAND 3, second part: every point's mask by its segment is the one by the records, so complements place by place flip each bit at every point. Assumes
-- nothing.
use Prim.Native.Nat.{ℕ, zero, suc, ◌-◌, ◌≤◌, ◌<◌}
use mathlib.Core.Path.{◌≡◌, refl, sym, ap, ◌∙◌}
use mathlib.Core.Logic.{◌⊎◌, inl, inr, ⊎_elim}
use mathlib.Core.Bool.{Bool, true, false, not, and-false}
use mathlib.Core.List.{List, [], ◌∷◌}
use native.Mathlib.Omega.{arith}
use lib.ListN.{length}
use borrow.Author.Tests.{lt-ltb, le-ltb, le-leb, lt-leb}
use Rattle.buffer.specs.Over.{zeros}
use Rattle.list_transitions.specs.Transition.{Transition, points, Complement}
use Rattle.list_transitions.proofs.Accepted.{AllInOrder}
use Rattle.list_transitions.proofs.Order.{le_cases}
use Rattle.list_segments.specs.Segments.{Asc, cuts_of}
use Rattle.list_masks.specs.Masks.{bit, words_for, mask_of}
use Rattle.list_masks.proofs.Packs.{length_mask}
use Rattle.law_rows.specs.Demand.{held_by, mask_bit, segment_mask_from, segment_mask_over, segment_mask, Flipped}
use Rattle.law_rows.proofs.Cuts.{In, asc_in}
use Rattle.law_rows.proofs.Segments.{Outside}
use Rattle.law_rows.proofs.Masks.{zero-zeros}
use Rattle.law_rows.proofs.Built.{asc_cuts, mask_same, mask_none}
use Rattle.law_rows.proofs.Looks.{mask_exact}

-- The mask by the segment

module _ (ts : List Transition) (p : ℕ) where
  before_from : (c : ℕ) (cs : List ℕ) → Asc (suc c) cs → p < c → segment_mask_from ts p c cs ≡ zeros (words_for (length ts))
  unfolding segment_mask_from
  before_from c [] a h = refl
  before_from c (n ∷ ns) a h = rw (lt-leb c p h) (before_from n ns a.1 (omega arith))

  module _ (a : AllInOrder ts) (h : p < points) where
    empty_mask : Outside (cuts_of ts) p → mask_of ts p ≡ zeros (words_for (length ts))
    empty_mask o = zero-zeros (mask_of ts p) (mask_none ts a p h o) ∙ ap zeros (length_mask ts p)

    mask_from : (c : ℕ) (cs : List ℕ) → Asc (suc c) cs → ((x : ℕ) → In x (cuts_of ts) → (x ≤ c) ⊎ In x cs) → c ≤ p → segment_mask_from ts p c cs ≡ mask_of ts p
    unfolding segment_mask_from
    mask_from c [] u k l = sym (empty_mask (inl (λ x i. ⊎_elim (λ g. omega arith) (λ j. absurd j) (k x i))))
    mask_from c (n ∷ ns) u k l =
        le_cases n p
        (λ g.
        rw (le-ltb p n g, and-false)
        (mask_from n ns u.1 (λ x i. ⊎_elim (λ b. inl (omega arith)) (⊎_elim (λ e. inl (omega arith)) (λ j. inr j)) (k x i)) g))
        (λ g.
        rw (lt-ltb p n g, le-leb c p l)
        (sym (mask_same ts a c n p h (λ x i. ⊎_elim (λ b. inl b) (λ j. inr (asc_in n (n ∷ ns) x (omega arith, u.1) j)) (k x i)) l g)))

    mask_over : (cs : List ℕ) → cs ≡ cuts_of ts → Asc 0 cs → segment_mask_over ts p cs ≡ mask_of ts p
    unfolding segment_mask_over
    mask_over [] e u = sym (empty_mask (inl (λ x i. absurd (rw (← e) at i))))
    mask_over (c ∷ cs) e u =
        le_cases c p
        (λ g. mask_from c cs u.1 (λ x i. let j : In x (c ∷ cs) = rw (← e) at i in ⊎_elim (λ b. inl (omega arith)) (λ k. inr k) j) g)
        (λ g.
        before_from c cs u.1 g
        ∙ sym (empty_mask (inr (λ x i. let j : In x (c ∷ cs) = rw (← e) at i in omega (arith, asc_in c (c ∷ cs) x (omega arith, u.1) j)))))

    -- "Mask bit i is set where transition i holds the segment", and so at every point of it
    pub segment_mask_lem : segment_mask ts p ≡ mask_of ts p
    segment_mask_lem = mask_over (cuts_of ts) refl (asc_cuts ts)

-- Complements

flip_at : (ts us : List Transition) (p i : ℕ) → Complement ts us → p < points → i < length ts → (i < length us) × (held_by us i p ≡ not (held_by ts i p))
flip_at [] us p i c h l = absurd (omega arith)
flip_at (t ∷ ts) [] p i c h l = absurd c
flip_at (t ∷ ts) (u ∷ us) p zero c h l = (omega arith, c.0 p h)
flip_at (t ∷ ts) (u ∷ us) p (suc i) c h l =
    let r : (i < length us) × (held_by us i p ≡ not (held_by ts i p)) = flip_at ts us p i c.1 h (omega arith) in
    (omega arith, r.1)

bit_not : (b : Bool) → bit (not b) ≡ 1 - bit b
bit_not true = refl
bit_not false = refl

-- THEOREM, over any two lists whose sets are in order
pub flipped : (ts us : List Transition) → AllInOrder ts → AllInOrder us → Complement ts us → Flipped ts us
flipped ts us a b c p i h l =
    let r : (i < length us) × (held_by us i p ≡ not (held_by ts i p)) = flip_at ts us p i c h l in
    ap (λ (m : List ℕ). mask_bit m i) (segment_mask_lem us p b h)
    ∙ mask_exact us p i r.0
    ∙ ap bit r.1
    ∙ bit_not (held_by ts i p)
    ∙ ap (λ (x : ℕ). 1 - x) (sym (ap (λ (m : List ℕ). mask_bit m i) (segment_mask_lem ts p a h) ∙ mask_exact ts p i l))
