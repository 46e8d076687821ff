-- An accepted list is its records: each is whole, of its tag's length and in order, and they stand one behind the other to the end. For the
-- crates above that walk the records: `turn` is one step of such a walk, `listed` the whole list. w is the list's bytes. Assumes nothing.
use mathlib.Core.Path.{◌≡◌, refl, sym, ap, ◌∙◌}
use mathlib.Core.Logic.{◌⊎◌, inl, inr, ⊎_elim}
use mathlib.Core.List.{List, [], ◌∷◌}
use mathlib.Core.Bool.{true, false}
use Prim.Native.Nat.{ℕ, zero, suc, ◌+◌, ◌*◌, ◌-◌, ◌<◌, ◌≤◌}
use native.Mathlib.Omega.{arith}
use borrow.Author.Tests.{le-leb, lt-leb, le-ltb}
use lib.ListN.{length, get_or, length-append}
use Rattle.refusal.specs.Said.{SHORT, FIELD, ORDER, LIMIT}
use Rattle.list_transitions.specs.Transition.{Transition, in_order}
use Rattle.list_transitions.specs.Intervals.{Span, intervals, ends, ends_all}
use Rattle.list_transitions.specs.Bytes.{size_at, shape_of, trans_of}
use Rattle.list_transitions.specs.Read.{good, bad, body_at, record_at, Parsed, parsed, refused, more, parse_from, parse, is_parsed, accepted}
use Rattle.list_transitions.specs.Walk.{trans_at, next_at, trans_from, Fit}
use Rattle.list_transitions.proofs.Order.{le_cases, both}
use Rattle.list_transitions.proofs.Records.{parse_bad, parse-over, parse_full, parse_on}

-- A record is what its bytes say, or refused

pub record Fine (w : List ℕ) (at : ℕ) : Type 0 where
  pub there : next_at w at ≤ length w
  pub shape : shape_of (get_or w at 0) (size_at w (at + 1)) ≡ true
  pub order : in_order (trans_at w at) ≡ true
  pub is : record_at w at ≡ good (trans_at w at) (next_at w at)

record Wrong (w : List ℕ) (at : ℕ) : Type 0 where
  number : ℕ
  is : record_at w at ≡ bad number

module _ (w : List ℕ) (at size : ℕ) where
  body_right : (t : Transition) → trans_of w (get_or w at 0) size (at + 3) ≡ t → shape_of (get_or w at 0) size ≡ true → in_order t ≡ true →
      body_at w at size ≡ good t (at + 3 + size)
  unfolding body_at
  body_right t e s o = rw (s, e, o)

  body_mixed : (t : Transition) → trans_of w (get_or w at 0) size (at + 3) ≡ t → shape_of (get_or w at 0) size ≡ true → in_order t ≡ false →
      body_at w at size ≡ bad ORDER
  unfolding body_at
  body_mixed t e s o = rw (s, e, o)

  body_unfit : shape_of (get_or w at 0) size ≡ false → body_at w at size ≡ bad FIELD
  unfolding body_at
  body_unfit s = rw s

fine_or_wrong : (w : List ℕ) (at : ℕ) → Fine w at ⊎ Wrong w at
unfolding record_at
fine_or_wrong w at =
    le_cases (at + 3) (length w)
    (λ a.
    le_cases (next_at w at) (length w)
    (λ b.
    ⊎_elim
    (λ s.
    ⊎_elim
    (λ o. inl (record { there = b; shape = s; order = o; is = rw (le-leb _ _ a, le-leb _ _ b) (body_right w at _ _ refl s o) }))
    (λ o. inr (record { number = ORDER; is = rw (le-leb _ _ a, le-leb _ _ b) (body_mixed w at _ _ refl s o) }))
    (both (in_order (trans_at w at))))
    (λ s. inr (record { number = FIELD; is = rw (le-leb _ _ a, le-leb _ _ b) (body_unfit w at _ s) }))
    (both (shape_of (get_or w at 0) (size_at w (at + 1)))))
    (λ b. inr (record { number = SHORT; is = rw (le-leb _ _ a, lt-leb _ _ b) })))
    (λ a. inr (record { number = SHORT; is = rw (lt-leb _ _ a) }))

-- In an accepted list, the record here and the rest

not-refused : (n p : ℕ) {x : Parsed} → x ≡ refused n p → is_parsed x ≡ true → ⊥
unfolding is_parsed
not-refused n p e h = let z : ◌≡◌ {A = ℕ} 0 1 = cc (rw e at h) in omega arith

parsed_more : (t : Transition) (x : Parsed) → is_parsed (more t x) ≡ is_parsed x
unfolding is_parsed more
parsed_more t (parsed ts) = refl
parsed_more t (refused n p) = refl

accepted-more : (t : Transition) (x : Parsed) → is_parsed x ≡ true → accepted (more t x) ≡ t ∷ accepted x
unfolding is_parsed more accepted
accepted-more t (parsed ts) h = refl
accepted-more t (refused n p) h = let z : ◌≡◌ {A = ℕ} 0 1 = cc in absurd (omega arith)

abbrev used_at : List ℕ → ℕ → ℕ → ℕ
used_at w at used = used + length (intervals (trans_at w at))

pub record Turn (w : List ℕ) (left at used : ℕ) : Type 0 where
  pub fine : Fine w at
  pub some : left ≡ suc (left - 1)
  pub most : used + length (intervals (trans_at w at)) ≤ 1024
  pub rest : is_parsed (parse_from w (left - 1) (next_at w at) (used + length (intervals (trans_at w at)))) ≡ true
  pub is : accepted (parse_from w left at used) ≡ trans_at w at ∷ accepted (parse_from w (left - 1) (next_at w at) (used + length (intervals (trans_at w at))))

pub turn : (w : List ℕ) (left at used : ℕ) → at < length w → is_parsed (parse_from w left at used) ≡ true → Turn w left at used
turn w left at used l h =
    ⊎_elim
    (λ f.
    le_cases left 0
    (λ z. absurd (not-refused LIMIT at (parse_full w at used l left (trans_at w at) _ f.is (omega arith)) h))
    (λ z.
    le_cases (used_at w at used) 1024
    (λ m.
    let one : left ≡ suc (left - 1) = omega arith in
    let tail : Parsed = parse_from w (left - 1) (next_at w at) (used_at w at used) in
    let on : parse_from w left at used ≡ more (trans_at w at) tail
    = ap (λ (n : ℕ). parse_from w n at used) one ∙ parse_on w at used l (left - 1) (trans_at w at) _ f.is m in
    let ok : is_parsed tail ≡ true = sym (parsed_more (trans_at w at) tail) ∙ ap is_parsed (sym on) ∙ h in
    record { fine = f; some = one; most = m; rest = ok; is = ap accepted on ∙ accepted-more (trans_at w at) tail ok })
    (λ m. absurd (not-refused LIMIT at (parse-over w at used l left (trans_at w at) _ f.is m) h))))
    (λ x. absurd (not-refused x.number at (parse_bad w at used l left x.number x.is) h))
    (fine_or_wrong w at)

no_turn : (w : List ℕ) (at used : ℕ) → Turn w 0 at used → ⊥
no_turn w at used t = let z : 0 ≡ suc (0 - 1) = t.some in omega arith

-- .. and none at the end
pub ended : (w : List ℕ) (left at used : ℕ) → length w ≤ at → accepted (parse_from w left at used) ≡ []
unfolding parse_from accepted
ended w zero at used l = rw (le-ltb _ _ l)
ended w (suc left) at used l = rw (le-ltb _ _ l)

-- a fact of every accepted list, by the records of it
pub walk : (P : ℕ → ℕ → ℕ → Type 0) (w : List ℕ) → ((left at used : ℕ) → length w ≤ at → P left at used) →
    ((left at used : ℕ) → Turn w (suc left) at used → P left (next_at w at) (used_at w at used) → P (suc left) at used) →
    (left at used : ℕ) → is_parsed (parse_from w left at used) ≡ true → P left at used
walk P w z s zero at used h = le_cases (length w) at (z zero at used) (λ l. absurd (no_turn w at used (turn w zero at used l h)))
walk P w z s (suc left) at used h =
    le_cases (length w) at
    (z (suc left) at used)
    (λ l.
    let t : Turn w (suc left) at used = turn w (suc left) at used l h in
    let one : suc left - 1 ≡ left = omega arith in
    s left at used t (walk P w z s left (next_at w at) (used_at w at used) (rw one at t.rest)))

-- The whole list

abbrev pub AllInOrder : List Transition → Type 0
AllInOrder [] = Unit {0}
AllInOrder (t ∷ ts) = (in_order t ≡ true) × AllInOrder ts

pub record Listed (w : List ℕ) (at : ℕ) (ts : List Transition) : Type 0 where
  pub is : ts ≡ trans_from w (length ts) at
  pub fit : Fit w (length ts) at
  pub order : AllInOrder ts

listed_end : (w : List ℕ) (at : ℕ) → Listed w at []
unfolding trans_from Fit
listed_end w at = record { is = refl; fit = tt; order = tt }

listed_turn : (w : List ℕ) (at : ℕ) (ts : List Transition) → Fine w at → Listed w (next_at w at) ts → Listed w at (trans_at w at ∷ ts)
unfolding trans_from Fit
listed_turn w at ts f l =
    record { is = ap (λ (l : List Transition). trans_at w at ∷ l) l.is; fit = (f.there, f.shape, f.order, l.fit); order = (f.order, l.order) }

pub listed_from : (w : List ℕ) (left at used : ℕ) → is_parsed (parse_from w left at used) ≡ true → Listed w at (accepted (parse_from w left at used))
listed_from w =
    walk (λ left at used. Listed w at (accepted (parse_from w left at used))) w
    (λ left at used l. rw (ended w left at used l) (listed_end w at))
    (λ left at used t r.
    let one : suc left - 1 ≡ left = omega arith in
    let is : accepted (parse_from w (suc left) at used) ≡ trans_at w at ∷ accepted (parse_from w left (next_at w at) (used_at w at used)) = rw one at t.is in
    rw is (listed_turn w at _ t.fine r))

pub listed : (w : List ℕ) → is_parsed (parse w) ≡ true → Listed w 0 (accepted (parse w))
listed w h = listed_from w 256 0 0 h

-- No more than 2,048 ends

pub length-ends : (ss : List Span) → length (ends ss) ≡ 2 * length ss
unfolding ends
length-ends [] = refl
length-ends (s ∷ ss) = omega (arith, length-ends ss)

most_from : (w : List ℕ) (left at used : ℕ) → is_parsed (parse_from w left at used) ≡ true → used ≤ 1024 →
    2 * used + length (ends_all (accepted (parse_from w left at used))) ≤ 2048
unfolding ends_all
most_from w =
    walk (λ left at used. used ≤ 1024 → 2 * used + length (ends_all (accepted (parse_from w left at used))) ≤ 2048) w
    (λ left at used l u. rw (ended w left at used l) (omega arith))
    (λ left at used t r u.
    let one : suc left - 1 ≡ left = omega arith in
    let tail : List Transition = accepted (parse_from w left (next_at w at) (used_at w at used)) in
    let is : accepted (parse_from w (suc left) at used) ≡ trans_at w at ∷ tail = rw one at t.is in
    let m : 2 * used_at w at used + length (ends_all tail) ≤ 2048 = r t.most in
    rw is (omega (arith, length-append (ends (intervals (trans_at w at))) (ends_all tail), length-ends (intervals (trans_at w at)))))

pub most_ends : (w : List ℕ) → is_parsed (parse w) ≡ true → length (ends_all (accepted (parse w))) ≤ 2048
most_ends w h = omega (arith, most_from w 256 0 0 h (omega arith))
