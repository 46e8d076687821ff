-- A list of transitions is read as its bytes say: it is the bytes of an allowed list, or such stand up to the record that is refused. w is the list's bytes;
-- from a place `at` on, `left` transitions may still come, and `used` intervals came before. Assumes nothing.
use Prim.Native.Nat.{ℕ, zero, suc, ◌+◌, ◌-◌, ◌≤◌, ◌<◌}
use native.Mathlib.Omega.{arith}
use mathlib.Core.Path.{◌≡◌, refl, sym, ap, subst, ◌∙◌}
use mathlib.Core.Bool.{true, false}
use mathlib.Core.List.{List, [], ◌∷◌, ◌++◌, append_assoc, append-nil}
use mathlib.Core.Logic.{◌⊎◌, inl, inr, ⊎_elim}
use lib.ListN.{length, length-append}
use borrow.Author.Tests.{le-ltb}
use Rattle.refusal.specs.Said.{SHORT, FIELD, ORDER, LIMIT}
use Rattle.refusal.specs.Lists.{each}
use Rattle.law_tables.specs.Table.{All}
use Rattle.law_tables.proofs.Codec.{At, start, same, on, to, at_length}
use Rattle.list_transitions.specs.Transition.{Transition, in_order}
use Rattle.list_transitions.specs.Intervals.{intervals, total}
use Rattle.list_transitions.specs.Read.{bad, record_at, Parsed, parsed, refused, more, parse_from, parse}
use Rattle.list_transitions.proofs.Order.{le_cases, both}
use Rattle.list_transitions.proofs.Records.{parse_bad, parse-over, parse_full, parse_on}
use Rattle.lexer_dfa.specs.ListsRefused.{Bytes, value_of, bytes_of, Numbers, IsList, Before, EndsInside, OfNone, Opens}
use Rattle.lexer_dfa.specs.ListsRefused.{ShortAt, FieldAt, OrderAt, LimitAt}
use Rattle.lexer_dfa.proofs.ListBytes.{Small, bytes_behind, Judged, ends_inside, of_none, of_one, record_judged}
use Rattle.lexer_dfa.proofs.ListBytes.{short-read, field_read, good-read, order_read}

-- What is read

-- records of transitions stand up to p, and `behind` from there on
record Front (left used at : ℕ) (rest : List ℕ) (p : ℕ) : Type 0 where
  list : List Transition
  numbered : All Numbers list
  ordered : All (λ t. in_order t ≡ true) list
  few : length list ≤ left
  small : used + total list ≤ 1024
  behind : List ℕ
  whole : rest ≡ each bytes_of list ++ behind
  place : p ≡ at + length (each bytes_of list)

-- why the record there is refused with that number
data Cause (n left used : ℕ) (rest : List ℕ) : Type 0 where
  inside : n ≡ SHORT → EndsInside rest → Cause n left used rest
  strange : n ≡ FIELD → OfNone rest → Cause n left used rest
  mixed : n ≡ ORDER → (t : Transition) → Opens rest t → in_order t ≡ false → Cause n left used rest
  over : n ≡ LIMIT → (t : Transition) → Opens rest t → in_order t ≡ true → (left ≡ 0) ⊎ (1024 < used + length (intervals t)) → Cause n left used rest

abbrev Reads : ℕ → ℕ → ℕ → List ℕ → Parsed → Type 0
Reads left used at rest (parsed ts) =
    (rest ≡ each bytes_of ts) × All Numbers ts × All (λ t. in_order t ≡ true) ts × (length ts ≤ left) × (used + total ts ≤ 1024)
Reads left used at rest (refused n p) = (f : Front left used at rest p) × Cause n (left - length f.list) (used + total f.list) f.behind

-- no record stands before the one here
front_here : {left used at : ℕ} (rest : List ℕ) → used ≤ 1024 → Front left used at rest at
unfolding each total All
front_here rest u =
    record { list = []; numbered = tt; ordered = tt; few = omega arith; small = omega arith; behind = rest; whole = refl; place = omega arith }

cause_at : {n a b c d : ℕ} {rest : List ℕ} → a ≡ b → c ≡ d → Cause n a c rest → Cause n b d rest
cause_at {n} {a} {b} {c} {d} {rest} e f x = subst (λ (u : ℕ). Cause n b u rest) f (subst (λ (l : ℕ). Cause n l c rest) e x)

refused_here : {left used at : ℕ} (n : ℕ) (rest : List ℕ) → used ≤ 1024 → Cause n left used rest → Reads left used at rest (refused n at)
unfolding total front_here
refused_here {left} {used} n rest u x =
    let a : left ≡ left - 0 = omega arith in let b : used ≡ used + 0 = omega arith in (front_here rest u, cause_at a b x)

-- a record before the others
module _ (left used at : ℕ) {rest : List ℕ} (t : Transition) (o : Opens rest t) (i : in_order t ≡ true) where
  grown : (x : Parsed) → Reads left (used + length (intervals t)) (at + 3 + length (value_of t)) o.1 x → Reads (suc left) used at rest (more t x)
  unfolding more each total All
  grown (parsed ts) (e, n, s, f, m) = (o.2 ∙ ap (λ (l : List ℕ). bytes_of t ++ l) e, (o.0, n), (i, s), omega arith, omega arith)
  grown (refused n p) (f, x) =
      let a : left - length f.list ≡ suc left - suc (length f.list) = omega arith in
      let b : used + length (intervals t) + total f.list ≡ used + (length (intervals t) + total f.list) = omega arith in (
        record {
          list = t ∷ f.list;
          numbered = (o.0, f.numbered);
          ordered = (i, f.ordered);
          few = omega (arith, f.few);
          small = omega (arith, f.small);
          behind = f.behind;
          whole = o.2 ∙ ap (λ (l : List ℕ). bytes_of t ++ l) f.whole ∙ sym (append_assoc (bytes_of t) (each bytes_of f.list) f.behind);
          place = omega (arith, f.place, length-append (value_of t) (each bytes_of f.list));
        },
        cause_at a b x,
      )

module _ (w : List ℕ) where
  parse_end : (left at used : ℕ) → length w ≤ at → parse_from w left at used ≡ parsed []
  unfolding parse_from
  parse_end zero at used h = rw (le-ltb at (length w) h)
  parse_end (suc left) at used h = rw (le-ltb at (length w) h)

  -- all but a good record that the limits allow
  module _ (left at used : ℕ) (rest : List ℕ) (s : Small rest) (a : At w at rest) (u : used ≤ 1024) where
    abbrev Here : Type 0
    Here = Reads left used at rest (parse_from w left at used)

    said_here : {x : Parsed} → parse_from w left at used ≡ x → Reads left used at rest x → Here
    said_here e r = subst (Reads left used at rest) (sym e) r

    end_here : length rest ≡ 0 → Here
    unfolding each total All
    end_here e =
        said_here (parse_end left at used (omega (arith, at_length a))) (nothing rest e, tt, tt, omega arith, omega arith)
      where
        nothing : (r : List ℕ) → length r ≡ 0 → r ≡ []
        nothing [] z = refl
        nothing (x ∷ r) z = absurd (omega arith)

    module _ (l : at < length w) where
      record_here : Judged rest → ((t : Transition) → Opens rest t → in_order t ≡ true → used + length (intervals t) ≤ 1024 → Here) → Here
      record_here (ends_inside e) k =
          said_here (parse_bad w at used l left SHORT (short-read rest a e)) (refused_here SHORT rest u (inside refl e))
      record_here (of_none x) k =
          said_here (parse_bad w at used l left FIELD (field_read x.1 x.2 (same a x.3) x.4)) (refused_here FIELD rest u (strange refl x))
      record_here (of_one t o) k =
          ⊎_elim
          (λ i.
          le_cases (used + length (intervals t)) 1024
          (k t o i)
          (λ m.
          said_here (parse-over w at used l left t _ (good-read t o.0 o.1 (same a o.2) i) m)
          (refused_here LIMIT rest u (over refl t o i (inr m)))))
          (λ i.
          said_here (parse_bad w at used l left ORDER (order_read t o.0 o.1 (same a o.2) i)) (refused_here ORDER rest u (mixed refl t o i)))
          (both (in_order t))

    here : ((l : at < length w) → (t : Transition) → Opens rest t → in_order t ≡ true → used + length (intervals t) ≤ 1024 → Here) → Here
    here k =
        le_cases 1 (length rest)
        (λ h. let l : at < length w = omega (arith, at_length a) in record_here l (record_judged rest s h) (k l))
        (λ h. end_here (omega arith))

  reads : (left at used : ℕ) (rest : List ℕ) → Small rest → At w at rest → used ≤ 1024 → Reads left used at rest (parse_from w left at used)
  reads zero at used rest s a u =
      here zero at used rest s a u
      (λ l t o i m.
      said_here zero at used rest s a u (parse_full w at used l zero t _ (good-read t o.0 o.1 (same a o.2) i) refl)
      (refused_here LIMIT rest u (over refl t o i (inl refl))))
  reads (suc left) at used rest s a u =
      here (suc left) at used rest s a u
      (λ l t o i m.
      let b : At w at (bytes_of t ++ o.1) = same a o.2 in
      let next : at + length (bytes_of t) ≡ at + 3 + length (value_of t) = omega arith in
      let r = reads left (at + 3 + length (value_of t)) (used + length (intervals t)) o.1 (bytes_behind (bytes_of t) (subst Small o.2 s))
      (to (on (bytes_of t) o.1 b) next) m in
      said_here (suc left) at used rest s a u (parse_on w at used l left t _ (good-read t o.0 o.1 b i) m) (grown left used at t o i _ r))

-- A whole list

-- why a list is refused with that number, at that place
pub data Reason (w : List ℕ) (n p : ℕ) : Type 0 where
  short : n ≡ SHORT → ShortAt w p → Reason w n p
  field : n ≡ FIELD → FieldAt w p → Reason w n p
  order : n ≡ ORDER → OrderAt w p → Reason w n p
  limit : n ≡ LIMIT → LimitAt w p → Reason w n p

abbrev pub ListRead : List ℕ → Parsed → Type 0
ListRead w (parsed ts) = IsList w ts
ListRead w (refused n p) = Reason w n p

more_than : (n m k : ℕ) → n ≤ 256 → (256 - n ≡ 0) ⊎ (1024 < 0 + m + k) → (256 < n + 1) ⊎ (1024 < m + k)
more_than n m k h (inl e) = inl (omega arith)
more_than n m k h (inr e) = inr (omega arith)

module _ {w : List ℕ} where
  before : {p : ℕ} → Front 256 0 0 w p → Before w p
  before f = record {
    list = f.list;
    allowed = record { numbered = f.numbered; ordered = f.ordered; few = f.few; small = omega (arith, f.small) };
    rest = f.behind;
    whole = f.whole;
    place = omega (arith, f.place);
  }

  reason : {n p : ℕ} (f : Front 256 0 0 w p) → Cause n (256 - length f.list) (0 + total f.list) f.behind → Reason w n p
  unfolding before
  reason f (inside e x) = short e (before f, x)
  reason f (strange e x) = field e (before f, x)
  reason f (mixed e t o i) = order e (before f, t, o, i)
  reason f (over e t o i x) = limit e (before f, t, o, i, more_than (length f.list) (total f.list) (length (intervals t)) f.few x)

whole-read : (w : List ℕ) (x : Parsed) → Reads 256 0 0 w x → ListRead w x
whole-read w (parsed ts) (e, n, o, f, s) = (record { numbered = n; ordered = o; few = f; small = omega arith }, e)
whole-read w (refused n p) (f, x) = reason f x

pub list_read : (w : List ℕ) → Bytes w → ListRead w (parse w)
list_read w s = whole-read w (parse w) (reads w 256 0 0 w (record { are = s }) (start w) (omega arith))

-- And so a list that is so is read so

unfoldable mores : List Transition → Parsed → Parsed
mores [] x = x
mores (t ∷ ts) x = more t (mores ts x)

mores-refused : (ts : List Transition) (n p : ℕ) → mores ts (refused n p) ≡ refused n p
unfolding mores more
mores-refused [] n p = refl
mores-refused (t ∷ ts) n p = ap (more t) (mores-refused ts n p)

mores_parsed : (ts : List Transition) → mores ts (parsed []) ≡ parsed ts
unfolding mores more
mores_parsed [] = refl
mores_parsed (t ∷ ts) = ap (more t) (mores_parsed ts)

module _ (w : List ℕ) where
  same_from_lem : {a b c d e f : ℕ} → a ≡ b → c ≡ d → e ≡ f → parse_from w a c e ≡ parse_from w b d f
  same_from_lem i j k = rw (i, j, k)

  -- records of transitions are read, and then what stands behind them
  front_read : (ts : List Transition) (rest : List ℕ) (left at used : ℕ) (left' at' used' : ℕ) → All Numbers ts → All (λ t. in_order t ≡ true) ts →
      left ≡ length ts + left' → at' ≡ at + length (each bytes_of ts) → used' ≡ used + total ts → used' ≤ 1024 → At w at (each bytes_of ts ++ rest) →
      parse_from w left at used ≡ mores ts (parse_from w left' at' used')
  unfolding mores each total All
  front_read [] rest left at used left' at' used' n o l p u m a = same_from_lem (omega arith) (omega arith) (omega arith)
  front_read (t ∷ ts) rest left at used left' at' used' n o l p u m a =
      let b : At w at (bytes_of t ++ (each bytes_of ts ++ rest)) = same a (append_assoc (bytes_of t) (each bytes_of ts) rest) in
      let here : at < length w = omega (arith, at_length b) in
      let next : at + length (bytes_of t) ≡ at + 3 + length (value_of t) = omega arith in
      let one : left ≡ suc (length ts + left') = omega arith in
      let far : at' ≡ at + 3 + length (value_of t) + length (each bytes_of ts) = omega (arith, length-append (value_of t) (each bytes_of ts)) in
      same_from_lem one refl refl
      ∙ parse_on w at used here (length ts + left') t (at + 3 + length (value_of t)) (good-read t n.0 (each bytes_of ts ++ rest) b o.0) (omega arith)
      ∙ ap (more t)
      (front_read ts rest (length ts + left') (at + 3 + length (value_of t)) (used + length (intervals t)) left' at' used' n.1 o.1 refl far (omega arith) m
      (to (on (bytes_of t) (each bytes_of ts ++ rest) b) next))

  pub list_parsed : (ts : List Transition) → IsList w ts → parse w ≡ parsed ts
  list_parsed ts (g, e) =
      let end : length w ≡ length (each bytes_of ts) = ap length e in
      let none : each bytes_of ts ≡ each bytes_of ts ++ [] = sym (append-nil (each bytes_of ts)) in
      front_read ts [] 256 0 0 (256 - length ts) (length w) (total ts) g.numbered g.ordered (omega (arith, g.few)) (omega arith) (omega arith) g.small
      (same (start w) (e ∙ none))
      ∙ ap (mores ts) (parse_end w (256 - length ts) (length w) (total ts) (omega arith))
      ∙ mores_parsed ts

  module _ {p : ℕ} (b : Before w p) where
    abbrev room : ℕ
    room = 256 - length b.list

    there : At w p b.rest
    there = record { pre = each bytes_of b.list; whole = b.whole; here = sym b.place }

    -- what is refused there is refused
    refused-there : {n : ℕ} → parse_from w room p (total b.list) ≡ refused n p → parse w ≡ refused n p
    refused-there {n} e =
        let g = b.allowed in
        front_read b.list b.rest 256 0 0 room p (total b.list) g.numbered g.ordered (omega (arith, g.few)) (omega (arith, b.place))
        (omega arith) g.small (same (start w) b.whole)
        ∙ ap (mores b.list) e
        ∙ mores-refused b.list n p

    bad_there : {n : ℕ} → 1 ≤ length b.rest → record_at w p ≡ bad n → parse w ≡ refused n p
    bad_there {n} h e = refused-there (parse_bad w p (total b.list) (omega (arith, at_length there)) room n e)

    short-there : EndsInside b.rest → parse w ≡ refused SHORT p
    short-there e = bad_there (some b.rest e) (short-read b.rest there e)
      where
        some : (r : List ℕ) → EndsInside r → 1 ≤ length r
        some [] x = absurd x
        some (y ∷ r) x = omega arith

    field_there : OfNone b.rest → parse w ≡ refused FIELD p
    field_there x = bad_there (omega (arith, ap length x.3)) (field_read x.1 x.2 (same there x.3) x.4)

    module _ (t : Transition) (o : Opens b.rest t) where
      opened : At w p (bytes_of t ++ o.1)
      opened = same there o.2

      order_there : in_order t ≡ false → parse w ≡ refused ORDER p
      order_there i = bad_there (omega (arith, ap length o.2)) (order_read t o.0 o.1 opened i)

      limit_there : in_order t ≡ true → (256 < length b.list + 1) ⊎ (1024 < total b.list + length (intervals t)) → parse w ≡ refused LIMIT p
      limit_there i (inl h) =
          refused-there (parse_full w p (total b.list) (omega (arith, at_length opened)) room t _ (good-read t o.0 o.1 opened i) (omega arith))
      limit_there i (inr h) =
          refused-there (parse-over w p (total b.list) (omega (arith, at_length opened)) room t _ (good-read t o.0 o.1 opened i) h)

  pub short_parsed : {p : ℕ} → ShortAt w p → parse w ≡ refused SHORT p
  short_parsed (b, e) = short-there b e

  pub field_parsed : {p : ℕ} → FieldAt w p → parse w ≡ refused FIELD p
  field_parsed (b, x) = field_there b x

  pub order_parsed : {p : ℕ} → OrderAt w p → parse w ≡ refused ORDER p
  order_parsed (b, t, o, i) = order_there b t o i

  pub limit_parsed : {p : ℕ} → LimitAt w p → parse w ≡ refused LIMIT p
  limit_parsed (b, t, o, i, h) = limit_there b t o i h
