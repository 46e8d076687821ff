-- A row is joined as well before those ranges are left out that have no goal, and before it is parted: the laws by which a row is written in one pass. d is the
-- goal of what is left out, k where the row begins. Assumes nothing.
use Prim.Native.Nat.{ℕ, suc, ◌≤◌, ◌<◌, max}
use mathlib.Core.Path.{◌≡◌, refl, sym, ap, ap₂, ◌∙◌}
use mathlib.Core.Logic.{◌⊎◌, inl, inr, ⊎_elim}
use mathlib.Core.Bool.{Bool, true, false}
use mathlib.Core.List.{[], ◌∷◌}
use native.Mathlib.Omega.{arith}
use borrow.Author.Tests.{lt-ltb, le-ltb, eq-eqb, ne_eqb, eqb-true, eqb-false}
use lib.Dec.{eqb}
use lib.ListN.{length}
use Rattle.refusal.specs.Lists.{pick}
use Rattle.law_tables.specs.Table.{Range}
use Rattle.law_lookups.specs.Looks.{goal_at}
use Rattle.list_transitions.proofs.Order.{le_or_lt}
use Rattle.law_rows.specs.Row.{Row, Sorted, touches, grown, join_to, join, cut_to, part_from}
use Rattle.law_rows.proofs.Searches.{look_hit, look_gap, look_past, look_below, sorted_weaken}
use Rattle.law_rows.proofs.Joins.{Touch, touch_or_not}
use Rattle.row_build.specs.Aimed.{living}

eq_or_ne : (a b : ℕ) → (a ≡ b) ⊎ (a ≡ b → ⊥)
eq_or_ne a b = go (eqb a b) refl
  where
    go : (t : Bool) → eqb a b ≡ t → (a ≡ b) ⊎ (a ≡ b → ⊥)
    go true e = inl (eqb-true a b e)
    go false e = inr (eqb-false a b e)

-- What is left out

sorted_pick : (t : Bool) (f : ℕ) (r : Range) (rs : Row) → f ≤ r.low → r.low ≤ r.high → Sorted (suc r.high) rs → Sorted f (pick t rs (r ∷ rs))
sorted_pick true f r rs l h s = sorted_weaken (suc r.high) f rs (omega arith) s
sorted_pick false f r rs l h s = (l, h, s)

sorted_living : (d f : ℕ) (rs : Row) → Sorted f rs → Sorted f (living d rs)
unfolding living
sorted_living d f [] s = s
sorted_living d f (r ∷ rs) s = sorted_pick (eqb r.goal d) f r (living d rs) s.0 s.1 (sorted_living d (suc r.high) rs s.2)

few_pick : (t : Bool) (r : Range) (rs : Row) (n : ℕ) → length rs ≤ n → length (pick t rs (r ∷ rs)) ≤ suc n
few_pick true r rs n h = omega arith
few_pick false r rs n h = omega arith

pub few_living : (d : ℕ) (rs : Row) → length (living d rs) ≤ length rs
unfolding living
few_living d [] = omega arith
few_living d (r ∷ rs) = few_pick (eqb r.goal d) r (living d rs) (length rs) (few_living d rs)

-- a range behind a gap is not joined
apart : (a : Range) (rs : Row) → Sorted (suc (suc a.high)) rs → join_to a rs ≡ a ∷ join rs
unfolding join_to join
apart a [] s = refl
apart a (r ∷ rs) s = rw (ne_eqb (suc a.high) r.low (λ e. omega arith))

-- joined, with a range in front that is left out ..
abbrev Left : ℕ → Row → Type 0
Left d rs = (a : Range) (f : ℕ) → a.goal ≡ d → Sorted f rs → living d (join_to a rs) ≡ join (living d rs)

-- .. or that is not
abbrev Kept : ℕ → Row → Type 0
Kept d rs = (a : Range) (f : ℕ) → (a.goal ≡ d → ⊥) → Sorted f (a ∷ rs) → living d (join_to a rs) ≡ join_to a (living d rs)

left_turn : (d : ℕ) (r : Range) (rs : Row) → Left d rs → Kept d rs → Left d (r ∷ rs)
unfolding living join_to join
left_turn d r rs n k a f e s =
    ⊎_elim
    (λ t. rw (t.0, eq-eqb r.goal d (sym t.1.1 ∙ e)) (n (grown a r) (suc r.high) e s.2))
    (λ t.
    ⊎_elim
    (λ z. rw (t.0, eq-eqb a.goal d e, eq-eqb r.goal d z) (n r (suc r.high) z s.2))
    (λ z. rw (t.0, eq-eqb a.goal d e, ne_eqb r.goal d z) (k r f z s))
    (eq_or_ne r.goal d))
    (touch_or_not a r)

kept_turn : (d : ℕ) (r : Range) (rs : Row) → Left d rs → Kept d rs → Kept d (r ∷ rs)
unfolding living join_to join
kept_turn d r rs n k a f l s =
    ⊎_elim
    (λ t. rw (ne_eqb r.goal d (λ z. l (t.1.1 ∙ z)), t.0) (k (grown a r) f l (s.0, omega arith, s.2.2)))
    (λ t.
    ⊎_elim
    (λ z.
    rw (eq-eqb r.goal d z, t.0, ne_eqb a.goal d l)
    (ap {B = Row} (λ x. a ∷ x) (n r (suc r.high) z s.2.2)
    ∙ sym (apart a (living d rs) (sorted_living d (suc (suc a.high)) rs (sorted_weaken (suc r.high) (suc (suc a.high)) rs (omega arith) s.2.2)))))
    (λ z. rw (ne_eqb r.goal d z, t.0, ne_eqb a.goal d l) (ap {B = Row} (λ x. a ∷ x) (k r (suc a.high) z s.2)))
    (eq_or_ne r.goal d))
    (touch_or_not a r)

both : (d : ℕ) (rs : Row) → Left d rs × Kept d rs
unfolding living join_to join
both d [] = (λ a f e s. rw (eq-eqb a.goal d e), λ a f l s. rw (ne_eqb a.goal d l))
both d (r ∷ rs) = (left_turn d r rs (both d rs).0 (both d rs).1, kept_turn d r rs (both d rs).0 (both d rs).1)

-- LIVING LAW: behind a range that is left out
pub living-joined : (d f : ℕ) (a : Range) (rs : Row) → a.goal ≡ d → Sorted f rs → living d (join_to a rs) ≡ join (living d rs)
living-joined d f a rs e s = (both d rs).0 a f e s

-- ranges that are left out change no answer
look_cons : (d : ℕ) (r : Range) (rs ss : Row) (p : ℕ) → goal_at d rs p ≡ goal_at d ss p → goal_at d (r ∷ rs) p ≡ goal_at d (r ∷ ss) p
unfolding goal_at
look_cons d r rs ss p e = rw e

look_left : (d : ℕ) (r : Range) (rs : Row) (p : ℕ) → r.goal ≡ d → Sorted (suc r.high) rs → goal_at d rs p ≡ goal_at d (r ∷ rs) p
look_left d r rs p e s =
    ⊎_elim
    (λ h.
    look_below d (suc r.high) rs p s (omega arith)
    ∙ ⊎_elim
    (λ l. sym (look_hit d r rs p l h ∙ e))
    (λ l. sym (look_gap d r rs p l h))
    (le_or_lt r.low p))
    (λ h. sym (look_past d r rs p h))
    (le_or_lt p r.high)

pub look_living : (d f : ℕ) (rs : Row) (p : ℕ) → Sorted f rs → goal_at d (living d rs) p ≡ goal_at d rs p
unfolding living
look_living d f [] p s = refl
look_living d f (r ∷ rs) p s =
    let rest : goal_at d (living d rs) p ≡ goal_at d rs p = look_living d (suc r.high) rs p s.2 in
    ⊎_elim
    (λ e. rw (eq-eqb r.goal d e) (rest ∙ look_left d r rs p e s.2))
    (λ e. rw (ne_eqb r.goal d e) (look_cons d r (living d rs) rs p rest))
    (eq_or_ne r.goal d)

-- Where a row begins

part_past : (k : ℕ) (r : Range) (rs : Row) → r.high < k → part_from k (r ∷ rs) ≡ part_from k rs
unfolding part_from
part_past k r rs h = rw (lt-ltb r.high k h)

part_here : (k : ℕ) (r : Range) (rs : Row) → k ≤ r.high → part_from k (r ∷ rs) ≡ cut_to k r ∷ part_from k rs
unfolding part_from
part_here k r rs h = rw (le-ltb r.high k h)

part-whole : (f k : ℕ) (rs : Row) → k ≤ f → Sorted f rs → part_from k rs ≡ rs
unfolding part_from
part-whole f k [] h s = refl
part-whole f k (r ∷ rs) h s =
    let e : max r.low k ≡ r.low = omega arith in
    let l : k ≤ r.high = omega arith in
    rw (le-ltb r.high k l, e) (ap {B = Row} (λ x. r ∷ x) (part-whole (suc r.high) k rs (omega arith) s.2))

join_touch : (a r : Range) (rs : Row) → touches a r ≡ true → join (a ∷ r ∷ rs) ≡ join_to (grown a r) rs
unfolding join join_to
join_touch a r rs t = rw t

join_apart : (a r : Range) (rs : Row) → touches a r ≡ false → join (a ∷ r ∷ rs) ≡ a ∷ join (r ∷ rs)
unfolding join join_to
join_apart a r rs t = rw t

join_one : (r : Range) (rs : Row) → join (r ∷ rs) ≡ join_to r rs
unfolding join
join_one r rs = refl

-- two ranges that touch are parted as the one that they grow to ..
part_touch : (k : ℕ) (a r : Range) (rs : Row) → Touch a r → a.low ≤ a.high → r.low ≤ r.high →
    join (part_from k (grown a r ∷ rs)) ≡ join (part_from k (a ∷ r ∷ rs))
part_touch k a r rs t l g =
    ⊎_elim
    (λ h.
    ap join (part_here k (grown a r) rs h)
    ∙ join_one (cut_to k (grown a r)) (part_from k rs)
    ∙ ⊎_elim
    (λ i.
    let e : suc a.high ≡ max r.low k = omega (arith, t.0) in
    sym
    (ap join (part_here k a (r ∷ rs) i ∙ ap {B = Row} (λ x. cut_to k a ∷ x) (part_here k r rs h))
    ∙ join_touch (cut_to k a) (cut_to k r) (part_from k rs) (rw (eq-eqb (suc a.high) (max r.low k) e, eq-eqb a.goal r.goal t.1))))
    (λ i.
    let e : max a.low k ≡ max r.low k = omega (arith, t.0) in
    ap₂ {C = Row} (λ (x y : ℕ). join_to (record { low = x; high = r.high; goal = y }) (part_from k rs)) e t.1
    ∙ sym (ap join (part_past k a (r ∷ rs) i ∙ part_here k r rs h) ∙ join_one (cut_to k r) (part_from k rs)))
    (le_or_lt k a.high))
    (λ h.
    let i : a.high < k = omega (arith, t.0) in
    ap join (part_past k (grown a r) rs h ∙ sym (part_past k a (r ∷ rs) i ∙ part_past k r rs h)))
    (le_or_lt k r.high)

-- .. and of two that do not the first stays as it is
part_apart : (k : ℕ) (a r : Range) (rs ss : Row) → touches a r ≡ false → Sorted (suc a.high) (r ∷ rs) → part_from k ss ≡ join (part_from k (r ∷ rs)) →
    part_from k (a ∷ ss) ≡ join (part_from k (a ∷ r ∷ rs))
part_apart k a r rs ss t s e =
    ⊎_elim
    (λ h.
    let whole : part_from k (r ∷ rs) ≡ r ∷ rs = part-whole (suc a.high) k (r ∷ rs) (omega arith) s in
    part_here k a ss h
    ∙ ap {B = Row} (λ x. cut_to k a ∷ x) (e ∙ ap join whole)
    ∙ sym (ap join (part_here k a (r ∷ rs) h ∙ ap {B = Row} (λ x. cut_to k a ∷ x) whole) ∙ join_apart (cut_to k a) r rs t))
    (λ h. part_past k a ss h ∙ e ∙ ap join (sym (part_past k a (r ∷ rs) h)))
    (le_or_lt k a.high)

part_one : (k : ℕ) (a : Range) → part_from k (a ∷ []) ≡ join (part_from k (a ∷ []))
unfolding part_from join join_to
part_one k a =
    ⊎_elim
    (λ h. rw (le-ltb a.high k h))
    (λ h. rw (lt-ltb a.high k h))
    (le_or_lt k a.high)

part-join_to : (k : ℕ) (rs : Row) (f : ℕ) (a : Range) → Sorted f (a ∷ rs) → part_from k (join_to a rs) ≡ join (part_from k (a ∷ rs))
unfolding join_to
part-join_to k [] f a s = part_one k a
part-join_to k (r ∷ rs) f a s =
    ⊎_elim
    (λ t. rw t.0 (part-join_to k rs f (grown a r) (s.0, omega arith, s.2.2) ∙ part_touch k a r rs t.1 s.1 s.2.1))
    (λ t. rw t.0 (part_apart k a r rs (join_to r rs) t.0 s.2 (part-join_to k rs (suc a.high) r s.2)))
    (touch_or_not a r)

-- PARTING LAW: a joined row is parted as the row is joined that was parted
pub part-joined : (k f : ℕ) (rs : Row) → Sorted f rs → part_from k (join rs) ≡ join (part_from k rs)
unfolding join part_from
part-joined k f [] s = refl
part-joined k f (r ∷ rs) s = part-join_to k rs f r s

-- from 0 on there is all of it
pub part_all : (rs : Row) → part_from 0 rs ≡ rs
unfolding part_from
part_all [] = refl
part_all (r ∷ rs) =
    let e : max r.low 0 ≡ r.low = omega arith in
    let l : 0 ≤ r.high = omega arith in
    rw (le-ltb r.high 0 l, e) (ap {B = Row} (λ x. r ∷ x) (part_all rs))
