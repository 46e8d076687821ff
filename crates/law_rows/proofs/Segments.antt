-- SEGMENT LAW: between two neighbouring cuts the same transitions hold every point, and outside all cuts none does. Assumes nothing.
use Prim.Native.Nat.{ℕ, suc, ◌≤◌, ◌<◌}
use mathlib.Core.Path.{◌≡◌, refl, ap₂}
use mathlib.Core.Logic.{◌⊎◌, inl, inr, ⊎_elim}
use mathlib.Core.Bool.{Bool, false, and-false, ◌&&◌, ◌||◌}
use mathlib.Core.List.{List, [], ◌∷◌}
use native.Mathlib.Omega.{arith}
use borrow.Author.Tests.{le-ltb, lt-leb}
use Rattle.list_transitions.proofs.Order.{le_cases, leb_same}
use Rattle.list_transitions.specs.Intervals.{Span, in_span, within, bits_at, Spans}
use Rattle.list_segments.specs.Segments.{Asc, starts_from, starts}
use Rattle.law_rows.proofs.Cuts.{In, Cover, asc_in}

-- no cut stands after c and before n
abbrev pub Clear : List ℕ → ℕ → ℕ → Type 0
Clear cs c n = (x : ℕ) → In x cs → (x ≤ c) ⊎ (n ≤ x)

span_same : (cs : List ℕ) (c n p : ℕ) (s : Span) → Clear cs c n → In s.low cs → In s.end cs → c ≤ p → p < n → in_span s p ≡ in_span s c
span_same cs c n p s k l e h g =
    ap₂ ◌&&◌
    (leb_same s.low p s.low c (λ a. ⊎_elim (λ b. b) (λ b. absurd (omega arith)) (k s.low l)) (λ a. omega arith))
    (leb_same (suc p) s.end (suc c) s.end (λ a. omega arith) (λ a. ⊎_elim (λ b. absurd (omega arith)) (λ b. omega arith) (k s.end e)))

within_same : (cs : List ℕ) (c n p : ℕ) (t : List Span) → Clear cs c n → Spans (λ x. In x cs) t → c ≤ p → p < n → within t p ≡ within t c
unfolding within
within_same cs c n p [] k h l g = refl
within_same cs c n p (s ∷ ss) k h l g = ap₂ ◌||◌ (span_same cs c n p s k h.0 h.1 l g) (within_same cs c n p ss k h.2 l g)

-- SEGMENT LAW: with no cut between, the same lists hold both points
pub bits_same : (cs : List ℕ) (c n p : ℕ) (ts : List (List Span)) → Clear cs c n → Cover cs ts → c ≤ p → p < n → bits_at ts p ≡ bits_at ts c
unfolding bits_at
bits_same cs c n p [] k h l g = refl
bits_same cs c n p (t ∷ ts) k h l g =
    ap₂ {C = List Bool} (λ b bs. b ∷ bs) (within_same cs c n p t k h.0 l g) (bits_same cs c n p ts k h.1 l g)

-- no bit set, n of them
unfoldable pub no_bits : List (List Span) → List Bool
no_bits [] = []
no_bits (t ∷ ts) = false ∷ no_bits ts

-- a point before all cuts, or at or after the last, is outside
abbrev pub Outside : List ℕ → ℕ → Type 0
Outside cs p = ((x : ℕ) → In x cs → x ≤ p) ⊎ ((x : ℕ) → In x cs → p < x)

within_none : (cs : List ℕ) (p : ℕ) (t : List Span) → Outside cs p → Spans (λ x. In x cs) t → within t p ≡ false
unfolding within
within_none cs p [] o h = refl
within_none cs p (s ∷ ss) o h = rw (within_none cs p ss o h.2) (
    ⊎_elim
    (λ k. rw (le-ltb p s.end (k s.end h.1), and-false))
    (λ k. rw (lt-leb s.low p (k s.low h.0)))
    o)

pub bits_none : (cs : List ℕ) (p : ℕ) (ts : List (List Span)) → Outside cs p → Cover cs ts → bits_at ts p ≡ no_bits ts
unfolding bits_at no_bits
bits_none cs p [] o h = refl
bits_none cs p (t ∷ ts) o h = ap₂ {C = List Bool} (λ b bs. b ∷ bs) (within_none cs p t o h.0) (bits_none cs p ts o h.1)

-- a point is outside, or has a segment
pub record Floor (all ss : List ℕ) (p : ℕ) : Type 0 where
  pub start : ℕ
  pub next : ℕ
  pub is_start : In start ss
  pub low : start ≤ p
  pub high : p < next
  pub clear : Clear all start next

more_floor : (all ss : List ℕ) (c p : ℕ) → Floor all ss p → Floor all (c ∷ ss) p
more_floor all ss c p k =
    record { start = k.start; next = k.next; is_start = inr k.is_start; low = k.low; high = k.high; clear = k.clear }

floor_from : (all : List ℕ) (p c : ℕ) (cs : List ℕ) → Asc (suc c) cs → ((x : ℕ) → In x all → (x ≤ c) ⊎ In x cs) → c ≤ p →
    Outside all p ⊎ Floor all (starts_from c cs) p
unfolding starts_from
floor_from all p c [] a k h = inl (inl (λ x i. ⊎_elim (λ l. omega arith) (λ j. absurd j) (k x i)))
floor_from all p c (n ∷ ns) a k h =
    le_cases n p
    (λ g.
    ⊎_elim (λ o. inl o) (λ w. inr (more_floor all (starts_from n ns) c p w))
    (floor_from all p n ns a.1 (λ x i. ⊎_elim (λ l. inl (omega arith)) (⊎_elim (λ e. inl (omega arith)) (λ j. inr j)) (k x i)) g))
    (λ g.
    inr
    (record {
      start = c;
      next = n;
      is_start = inl refl;
      low = h;
      high = g;
      clear = λ x i. ⊎_elim (λ l. inl l) (λ j. inr (asc_in n (n ∷ ns) x (omega arith, a.1) j)) (k x i);
    }))

pub floor : (cs : List ℕ) (p : ℕ) → Asc 0 cs → Outside cs p ⊎ Floor cs (starts cs) p
unfolding starts
floor [] p a = inl (inl (λ x i. absurd i))
floor (c ∷ cs) p a =
    le_cases c p
    (λ h. floor_from (c ∷ cs) p c cs a.1 (λ x i. ⊎_elim (λ e. inl (omega arith)) (λ j. inr j) i) h)
    (λ h. inl (inr (λ x i. omega (arith, asc_in c (c ∷ cs) x (omega arith, a.1) i))))
