-- SAMPLING LAW: a row that takes the value of a function at each cut, where the function changes at cuts only, answers that function at every point. One law
-- for targets and continuations: d is what is left out of the row. Assumes nothing.
use Prim.Native.Nat.{ℕ, suc, ◌-◌, ◌≤◌, ◌<◌}
use mathlib.Core.Path.{◌≡◌, refl, sym, ap₂, ◌∙◌}
use mathlib.Core.Logic.{◌⊎◌, inl, inr, ⊎_elim}
use mathlib.Core.List.{List, [], ◌∷◌}
use native.Mathlib.Omega.{arith}
use lib.Dec.{eqb}
use borrow.Author.Tests.{eq-eqb, ne_eqb}
use Rattle.refusal.specs.Lists.{pick}
use Rattle.list_transitions.proofs.Order.{le_or_lt}
use Rattle.list_segments.specs.Segments.{Asc, starts_from, starts}
use Rattle.list_segments.proofs.Inserts.{three}
use Rattle.law_lookups.specs.Looks.{goal_at}
use Rattle.law_rows.specs.Row.{Row, segment, row_from, row_over, Sorted}
use Rattle.law_rows.proofs.Searches.{Upto, sorted_weaken, look_hit, look_past, look_below}
use Rattle.law_rows.proofs.Joins.{Live}
use Rattle.law_rows.proofs.Cuts.{In, asc_in}
use Rattle.law_rows.proofs.Segments.{Clear, Outside}

eq_or_ne : (a b : ℕ) → (a ≡ b) ⊎ (a ≡ b → ⊥)
eq_or_ne a b = ⊎_elim (λ h. inr (omega arith)) (⊎_elim (λ h. inl h) (λ h. inr (omega arith))) (three a b)

sorted_from : (d : ℕ) (f : ℕ → ℕ) (c : ℕ) (cs : List ℕ) → Asc (suc c) cs → Sorted c (row_from d f c cs)
unfolding row_from
sorted_from d f c [] a = tt
sorted_from d f c (n ∷ ns) a =
    ⊎_elim
    (λ e. rw (eq-eqb (f c) d e) (sorted_weaken n c (row_from d f n ns) (omega arith) (sorted_from d f n ns a.1)))
    (λ e. rw (ne_eqb (f c) d e) (omega arith, omega arith, sorted_weaken n (suc (n - 1)) (row_from d f n ns) (omega arith) (sorted_from d f n ns a.1)))
    (eq_or_ne (f c) d)

live_from : (d : ℕ) (f : ℕ → ℕ) (c : ℕ) (cs : List ℕ) → Live d (row_from d f c cs)
unfolding row_from
live_from d f c [] = tt
live_from d f c (n ∷ ns) =
    ⊎_elim
    (λ e. rw (eq-eqb (f c) d e) (live_from d f n ns))
    (λ e. rw (ne_eqb (f c) d e) (e, live_from d f n ns))
    (eq_or_ne (f c) d)

-- a function of the point that changes at cuts only, and is d outside
pub record Stepped (d : ℕ) (f : ℕ → ℕ) (cs : List ℕ) : Type 0 where
  pub same : (c n p : ℕ) → Clear cs c n → c ≤ p → p < n → f p ≡ f c
  pub none : (p : ℕ) → Outside cs p → f p ≡ d

look_from : (d : ℕ) (f : ℕ → ℕ) (all : List ℕ) → Stepped d f all → (p c : ℕ) (cs : List ℕ) → Asc (suc c) cs →
    ((x : ℕ) → In x all → (x ≤ c) ⊎ In x cs) → c ≤ p → goal_at d (row_from d f c cs) p ≡ f p
unfolding row_from goal_at
look_from d f all st p c [] a k h = sym (st.none p (inl (λ x i. ⊎_elim (λ l. omega arith) (λ j. absurd j) (k x i))))
look_from d f all st p c (n ∷ ns) a k h =
    ⊎_elim
    (λ g.
    let ih : goal_at d (row_from d f n ns) p ≡ f p =
    look_from d f all st p n ns a.1 (λ x i. ⊎_elim (λ l. inl (omega arith)) (⊎_elim (λ e. inl (omega arith)) (λ j. inr j)) (k x i)) g in
    ⊎_elim
    (λ e. rw (eq-eqb (f c) d e) ih)
    (λ e. rw (ne_eqb (f c) d e) (look_past d (segment f c n) (row_from d f n ns) p (omega arith) ∙ ih))
    (eq_or_ne (f c) d))
    (λ g.
    let here : f p ≡ f c = st.same c n p (λ x i. ⊎_elim (λ l. inl l) (λ j. inr (asc_in n (n ∷ ns) x (omega arith, a.1) j)) (k x i)) h g in
    ⊎_elim
    (λ e.
    rw (eq-eqb (f c) d e)
    (look_below d n (row_from d f n ns) p (sorted_from d f n ns a.1) g ∙ sym e ∙ sym here))
    (λ e. rw (ne_eqb (f c) d e) (look_hit d (segment f c n) (row_from d f n ns) p h (omega arith) ∙ sym here))
    (eq_or_ne (f c) d))
    (le_or_lt n p)

-- SAMPLING LAW: the row answers the function that it samples
pub look_over : (d : ℕ) (f : ℕ → ℕ) (cs : List ℕ) → Asc 0 cs → Stepped d f cs → (p : ℕ) → goal_at d (row_over d f cs) p ≡ f p
unfolding row_over goal_at
look_over d f [] a st p = sym (st.none p (inl (λ x i. absurd i)))
look_over d f (c ∷ cs) a st p =
    ⊎_elim
    (λ h. look_from d f (c ∷ cs) st p c cs a.1 (λ x i. ⊎_elim (λ e. inl (omega arith)) (λ j. inr j) i) h)
    (λ h.
    look_below d c (row_from d f c cs) p (sorted_from d f c cs a.1) h
    ∙ sym (st.none p (inr (λ x i. omega (arith, asc_in c (c ∷ cs) x (omega arith, a.1) i)))))
    (le_or_lt c p)

pub sorted_over : (d : ℕ) (f : ℕ → ℕ) (cs : List ℕ) → Asc 0 cs → Sorted 0 (row_over d f cs)
unfolding row_over
sorted_over d f [] a = tt
sorted_over d f (c ∷ cs) a = sorted_weaken c 0 (row_from d f c cs) (omega arith) (sorted_from d f c cs a.1)

pub live_over : (d : ℕ) (f : ℕ → ℕ) (cs : List ℕ) → Live d (row_over d f cs)
unfolding row_over
live_over d f [] = tt
live_over d f (c ∷ cs) = live_from d f c cs

upto_from : (m d : ℕ) (f : ℕ → ℕ) (c : ℕ) (cs : List ℕ) → ((x : ℕ) → In x cs → x ≤ suc m) → Upto m (row_from d f c cs)
unfolding row_from
upto_from m d f c [] a = tt
upto_from m d f c (n ∷ ns) a =
    ⊎_elim
    (λ e. rw (eq-eqb (f c) d e) (upto_from m d f n ns (λ x i. a x (inr i))))
    (λ e. rw (ne_eqb (f c) d e) (omega (arith, a n (inl refl)), upto_from m d f n ns (λ x i. a x (inr i))))
    (eq_or_ne (f c) d)

pub upto_over : (m d : ℕ) (f : ℕ → ℕ) (cs : List ℕ) → ((x : ℕ) → In x cs → x ≤ suc m) → Upto m (row_over d f cs)
unfolding row_over
upto_over m d f [] a = tt
upto_over m d f (c ∷ cs) a = upto_from m d f c cs (λ x i. a x (inr i))

-- a row is made by what the function gives where segments start
same_from_lem : (d : ℕ) (f g : ℕ → ℕ) (c : ℕ) (cs : List ℕ) → ((x : ℕ) → In x (starts_from c cs) → f x ≡ g x) → row_from d f c cs ≡ row_from d g c cs
unfolding row_from starts_from
same_from_lem d f g c [] e = refl
same_from_lem d f g c (n ∷ ns) e =
    ap₂ {C = Row} (λ v rest. pick (eqb v d) rest (record { low = c; high = n - 1; goal = v } ∷ rest)) (e c (inl refl))
    (same_from_lem d f g n ns (λ x i. e x (inr i)))

pub same_over : (d : ℕ) (f g : ℕ → ℕ) (cs : List ℕ) → ((x : ℕ) → In x (starts cs) → f x ≡ g x) → row_over d f cs ≡ row_over d g cs
unfolding row_over starts
same_over d f g [] e = refl
same_over d f g (c ∷ cs) e = same_from_lem d f g c cs e

-- before the last cut each segment starts
start-below : (top c : ℕ) (cs : List ℕ) (x : ℕ) → Asc (suc c) cs → ((z : ℕ) → In z cs → z ≤ top) → In x (starts_from c cs) → x < top
unfolding starts_from
start-below top c [] x a h i = absurd i
start-below top c (n ∷ ns) x a h (inl e) = omega (arith, h n (inl refl))
start-below top c (n ∷ ns) x a h (inr i) = start-below top n ns x a.1 (λ z j. h z (inr j)) i

pub starts-below : (top : ℕ) (cs : List ℕ) (x : ℕ) → Asc 0 cs → ((z : ℕ) → In z cs → z ≤ top) → In x (starts cs) → x < top
unfolding starts
starts-below top [] x a h i = absurd i
starts-below top (c ∷ cs) x a h i = start-below top c cs x a.1 (λ z j. h z (inr j)) i
