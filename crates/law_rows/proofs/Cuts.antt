-- CUT LAW: the cuts ascend, and are just the ends of the intervals. Assumes nothing.
use Prim.Native.Nat.{ℕ, suc, ◌≤◌}
use mathlib.Core.Path.{◌≡◌, refl}
use mathlib.Core.Logic.{◌⊎◌, inl, inr, ⊎_elim}
use mathlib.Core.List.{List, [], ◌∷◌}
use native.Mathlib.Omega.{arith}
use Rattle.list_transitions.specs.Intervals.{Span, Spans, Lists}
use Rattle.list_segments.specs.Segments.{Asc, insert, cut_spans, cut_all}
use Rattle.list_segments.proofs.Inserts.{three, insert_lt, insert_eq, insert_gt, asc_insert}

abbrev pub In : ℕ → List ℕ → Type 0
In x [] = ⊥
In x (y ∷ ys) = (x ≡ y) ⊎ In x ys

pub in_insert : (x : ℕ) (ys : List ℕ) → In x (insert x ys)
unfolding insert
in_insert x [] = inl refl
in_insert x (y ∷ ys) =
    ⊎_elim
    (λ h. rw (insert_lt x y ys h) (inl refl))
    (⊎_elim (λ h. rw (insert_eq x y ys h) (inl h)) (λ h. rw (insert_gt x y ys h) (inr (in_insert x ys))))
    (three x y)

pub in_more : (z x : ℕ) (ys : List ℕ) → In z ys → In z (insert x ys)
unfolding insert
in_more z x [] i = inr i
in_more z x (y ∷ ys) i =
    ⊎_elim
    (λ h. rw (insert_lt x y ys h) (inr i))
    (⊎_elim
    (λ h. rw (insert_eq x y ys h) i)
    (λ h. rw (insert_gt x y ys h) (⊎_elim (λ e. inl e) (λ j. inr (in_more z x ys j)) i)))
    (three x y)

pub asc_in : (f : ℕ) (cs : List ℕ) (x : ℕ) → Asc f cs → In x cs → f ≤ x
asc_in f [] x a i = elim i [ ]
asc_in f (c ∷ cs) x a (inl e) = omega arith
asc_in f (c ∷ cs) x a (inr i) = omega (arith, asc_in (suc c) cs x a.1 i)

-- each end is among the cuts
abbrev pub Cover : List ℕ → List (List Span) → Type 0
Cover cs ts = Lists (λ x. In x cs) ts

in_either : (z x : ℕ) (ys : List ℕ) → In z (insert x ys) → (z ≡ x) ⊎ In z ys
unfolding insert
in_either z x [] i = i
in_either z x (y ∷ ys) i =
    ⊎_elim
    (λ h. rw (insert_lt x y ys h) at i)
    (⊎_elim
    (λ h. inr (rw (insert_eq x y ys h) at i))
    (λ h.
    let j : In z (y ∷ insert x ys) = rw (insert_gt x y ys h) at i in
    ⊎_elim (λ e. inr (inl e)) (λ k. ⊎_elim (λ e. inl e) (λ w. inr (inr w)) (in_either z x ys k)) j))
    (three x y)

keep_spans : (x : ℕ) (t : List Span) (cs : List ℕ) → In x cs → In x (cut_spans t cs)
unfolding cut_spans
keep_spans x [] cs i = i
keep_spans x (s ∷ ss) cs i = keep_spans x ss _ (in_more x s.end _ (in_more x s.low cs i))

keep_all : (x : ℕ) (ts : List (List Span)) (cs : List ℕ) → In x cs → In x (cut_all ts cs)
unfolding cut_all
keep_all x [] cs i = i
keep_all x (t ∷ ts) cs i = keep_all x ts _ (keep_spans x t cs i)

spans-more : (P Q : ℕ → Type 0) (t : List Span) → ((x : ℕ) → P x → Q x) → Spans P t → Spans Q t
spans-more P Q [] m h = tt
spans-more P Q (s ∷ ss) m h = (m s.low h.0, m s.end h.1, spans-more P Q ss m h.2)

spans-cut : (t : List Span) (cs : List ℕ) → Spans (λ x. In x (cut_spans t cs)) t
unfolding cut_spans
spans-cut [] cs = tt
spans-cut (s ∷ ss) cs = (
  keep_spans s.low ss _ (in_more s.low s.end _ (in_insert s.low cs)),
  keep_spans s.end ss _ (in_insert s.end (insert s.low cs)),
  spans-cut ss (insert s.end (insert s.low cs)),
)

-- CUTS: each end is a cut ..
pub cover_cut : (ts : List (List Span)) (cs : List ℕ) → Cover (cut_all ts cs) ts
unfolding cut_all
cover_cut [] cs = tt
cover_cut (t ∷ ts) cs = (
  spans-more (λ x. In x (cut_spans t cs)) (λ x. In x (cut_all ts (cut_spans t cs))) t (λ x i. keep_all x ts (cut_spans t cs) i) (spans-cut t cs),
  cover_cut ts (cut_spans t cs),
)

-- .. and what holds of each end holds of each cut
each-insert : (P : ℕ → Type 0) (x : ℕ) (cs : List ℕ) → P x → ((z : ℕ) → In z cs → P z) → (z : ℕ) → In z (insert x cs) → P z
each-insert P x cs h a z i = ⊎_elim (λ e. rw e h) (λ j. a z j) (in_either z x cs i)

each-spans : (P : ℕ → Type 0) (t : List Span) (cs : List ℕ) → Spans P t → ((x : ℕ) → In x cs → P x) → (x : ℕ) → In x (cut_spans t cs) → P x
unfolding cut_spans
each-spans P [] cs h a = a
each-spans P (s ∷ ss) cs h a = each-spans P ss _ h.2 (each-insert P s.end _ h.1 (each-insert P s.low cs h.0 a))

pub each-cut : (P : ℕ → Type 0) (ts : List (List Span)) (cs : List ℕ) → Lists P ts → ((x : ℕ) → In x cs → P x) → (x : ℕ) → In x (cut_all ts cs) → P x
unfolding cut_all
each-cut P [] cs h a = a
each-cut P (t ∷ ts) cs h a = each-cut P ts _ h.1 (each-spans P t cs h.0 a)

asc_cut_spans : (t : List Span) (cs : List ℕ) → Asc 0 cs → Asc 0 (cut_spans t cs)
unfolding cut_spans
asc_cut_spans [] cs a = a
asc_cut_spans (s ∷ ss) cs a = asc_cut_spans ss _ (asc_insert 0 s.end _ (omega arith) (asc_insert 0 s.low cs (omega arith) a))

pub asc_cut : (ts : List (List Span)) (cs : List ℕ) → Asc 0 cs → Asc 0 (cut_all ts cs)
unfolding cut_all
asc_cut [] cs a = a
asc_cut (t ∷ ts) cs a = asc_cut ts _ (asc_cut_spans t cs a)
