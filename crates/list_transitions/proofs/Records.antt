-- The laws of a record's judgement, and of the loop over the records of a list. w is the list's bytes. Assumes nothing.
use mathlib.Core.Path.{◌≡◌, refl, sym, ap, ap₂, ◌∙◌}
use mathlib.Core.List.{List, [], ◌∷◌}
use mathlib.Core.Bool.{Bool, true, false}
use Prim.Native.Nat.{ℕ, zero, suc, ◌+◌, ◌-◌, ◌<◌, ◌≤◌}
use native.Mathlib.Nat.{add-zero}
use native.Mathlib.Omega.{arith}
use borrow.Author.Rules.{rules}
use borrow.Author.Tests.{le-leb, lt-leb, lt-ltb, le-ltb}
use lib.ListN.{length, get_or, take, drop}
use Rattle.std.specs.Prelude.{Result, Ok, Err}
use Rattle.refusal.specs.declared.Refusal.{Refusal}
use Rattle.refusal.specs.Said.{Said, ok, no_by, no, refusal_at, SHORT, FIELD, ORDER, LIMIT}
use Rattle.list_transitions.specs.Transition.{Transition, in_order}
use Rattle.list_transitions.specs.Intervals.{intervals, total}
use Rattle.list_transitions.specs.Bytes.{size_at, shape_of}
use Rattle.list_transitions.specs.Read.{said, Rec, good, bad, body_at, record_at, step_of, Parsed, parsed, refused, more, onward, parse_from, counted}
use Rattle.list_transitions.specs.declared.Step.{Step}
use Rattle.list_transitions.specs.declared.Transitions.{Transitions}
use Rattle.list_transitions.specs.declared.Value.{Value}
use Rattle.list_transitions.specs.Values.{transition_of, Says}
use Rattle.list_transitions.proofs.Values.{part-shape, part-says}
use Rattle.list_transitions.proofs.Order.{le_cases}

-- A record's value is judged

module _ (w : List ℕ) (at size n : ℕ) (l : at + 3 + size ≤ length w) (e : n ≡ at + 3 + size) where
  abbrev value : List ℕ
  value = take (n - (at + 3)) (drop (at + 3) w)

  pub body_field : {r : Refusal} → shape_of (get_or w at 0) (length value) ≡ false → r ≡ refusal_at FIELD at → Err r ≡ step_of at (body_at w at size)
  unfolding body_at step_of
  body_field s f = rw (← part-shape w (at + 3) size n l e (get_or w at 0), s, f)

  module _ {v : Value} (s : Says (get_or w at 0) value v) {b : Bool} (o : b ≡ in_order (transition_of v)) where
    pub body_order : {r : Refusal} → b ≡ false → r ≡ refusal_at ORDER at → Err r ≡ step_of at (body_at w at size)
    unfolding body_at step_of
    body_order h f = let p = part-says w (at + 3) size n l e s in rw (p.0, ← p.1, ← o, h, f)

    pub body_good : {m : ℕ} → b ≡ true → m ≡ length (intervals (transition_of v)) → Ok (record { next = n; intervals = m }) ≡ step_of at (body_at w at size)
    unfolding body_at step_of
    body_good h k = let p = part-says w (at + 3) size n l e s in rw (p.0, ← p.1, ← o, h, k, e)

-- A record is there, or the input ends

module _ (w : List ℕ) (at : ℕ) where
  pub short_1 : {r : Refusal} → r ≡ refusal_at SHORT at → length w - at < 3 → Err r ≡ step_of at (record_at w at)
  unfolding record_at step_of
  short_1 f h = let m : length w < at + 3 = omega arith in rw (f, lt-leb _ _ m)

  module _ {s : ℕ} (g : at < length w) (h : 3 ≤ length w - at) (e : s ≡ size_at w (at + 1)) where
    pub short_2 : {r : Refusal} → r ≡ refusal_at SHORT at → length w - at - 3 < s → Err r ≡ step_of at (record_at w at)
    unfolding record_at step_of
    short_2 f k =
        let m : at + 3 ≤ length w = omega arith in
        let l : length w < at + 3 + s = omega arith in
        rw (f, le-leb _ _ m, ← e, lt-leb _ _ l)

    pub whole : {r : Result Step Refusal} → s ≤ length w - at - 3 → r ≡ step_of at (body_at w at s) → r ≡ step_of at (record_at w at)
    unfolding record_at
    whole k b =
        let m : at + 3 ≤ length w = omega arith in
        let l : at + 3 + s ≤ length w = omega arith in
        rw (le-leb _ _ m, ← e, le-leb _ _ l) b

pub ruleset judging = (rules, short_1, short_2, whole)

-- One turn of the definition: a bad record, one past a limit, and a good one

module _ (w : List ℕ) (at used : ℕ) (l : at < length w) where
  pub parse_bad : (left n : ℕ) → record_at w at ≡ bad n → parse_from w left at used ≡ refused n at
  unfolding parse_from onward
  parse_bad zero n e = rw (lt-ltb _ _ l, e)
  parse_bad (suc left) n e = rw (lt-ltb _ _ l, e)

  pub parse-over : (left : ℕ) (t : Transition) (next : ℕ) → record_at w at ≡ good t next → 1024 < used + length (intervals t) →
      parse_from w left at used ≡ refused LIMIT at
  unfolding parse_from onward
  parse-over zero t next e h = rw (lt-ltb _ _ l, e, lt-leb (used + length (intervals t)) 1024 h)
  parse-over (suc left) t next e h = rw (lt-ltb _ _ l, e, lt-leb (used + length (intervals t)) 1024 h)

  pub parse_full : (left : ℕ) (t : Transition) (next : ℕ) → record_at w at ≡ good t next → left ≡ 0 → parse_from w left at used ≡ refused LIMIT at
  unfolding parse_from onward more
  parse_full zero t next e h =
      le_cases (used + length (intervals t)) 1024
      (λ k. rw (lt-ltb _ _ l, e, le-leb (used + length (intervals t)) 1024 k))
      (λ k. rw (lt-ltb _ _ l, e, lt-leb (used + length (intervals t)) 1024 k))
  parse_full (suc left) t next e h = absurd (omega arith)

  pub parse_on : (left : ℕ) (t : Transition) (next : ℕ) → record_at w at ≡ good t next → used + length (intervals t) ≤ 1024 →
      parse_from w (suc left) at used ≡ more t (parse_from w left next (used + length (intervals t)))
  unfolding parse_from onward
  parse_on left t next e h = rw (lt-ltb _ _ l, e, le-leb (used + length (intervals t)) 1024 h)

-- What is counted with n transitions and k intervals before it

unfoldable pub counted_from : ℕ → ℕ → Parsed → Said
counted_from n k (parsed ts) = ok ((n + length ts) ∷ (k + total ts) ∷ [])
counted_from n k (refused x p) = no x p

pub counted_start : (x : Parsed) → counted_from 0 0 x ≡ counted x
unfolding counted_from counted
counted_start (parsed ts) =
    let a : 0 + length ts ≡ length ts = omega arith in
    let b : 0 + total ts ≡ total ts = omega arith in
    ap₂ {C = Said} (λ m k. ok (m ∷ k ∷ [])) a b
counted_start (refused n p) = refl

counted-more : (m k : ℕ) (t : Transition) (x : Parsed) → counted_from m k (more t x) ≡ counted_from (suc m) (k + length (intervals t)) x
unfolding counted_from more total
counted-more m k t (parsed ts) =
    let a : m + suc (length ts) ≡ suc m + length ts = omega arith in
    let b : k + (length (intervals t) + total ts) ≡ k + length (intervals t) + total ts = omega arith in
    ap₂ {C = Said} (λ m k. ok (m ∷ k ∷ [])) a b
counted-more m k t (refused n p) = refl

-- The loop: what is counted of the rest, with what was counted, is what is counted of all

record Ill (x : Rec) (at : ℕ) (r : Refusal) : Type 0 where
  number : ℕ
  is : x ≡ bad number
  said : r ≡ refusal_at number at

step_bad : (at : ℕ) (x : Rec) {got : Result Step Refusal} {r : Refusal} → got ≡ step_of at x → got ≡ Err r → Ill x at r
unfolding step_of
step_bad at (good t next) a b = cc
step_bad at (bad m) a b = record { number = m; is = refl; said = cc }

record Got (x : Rec) (next k : ℕ) : Type 0 where
  t : Transition
  is : x ≡ good t next
  size : k ≡ length (intervals t)

step-good : (at : ℕ) (x : Rec) {got : Result Step Refusal} {s : Step} → got ≡ step_of at x → got ≡ Ok s → Got x s.next s.intervals
unfolding step_of
step-good at (good t m) {got} {s} a b =
    let e : s ≡ record { next = m; intervals = length (intervals t) } = cc in
    record { t = t; is = rw e; size = rw e }
step-good at (bad m) a b = cc

module _ (w : List ℕ) (left at used : ℕ) {got : Result Step Refusal} {all : Said} (l : at < length w) (g : got ≡ step_of at (record_at w at))
    (i : counted_from (256 - left) used (parse_from w left at used) ≡ all) where
  pub rec_bad : {r : Refusal} → got ≡ Err r → said (Err r) ≡ all
  unfolding counted_from
  rec_bad e =
      let ill = step_bad at (record_at w at) g e in
      ap no_by ill.said ∙ rw (parse_bad w at used l left ill.number ill.is) at i

  module _ {s : Step} (e : got ≡ Ok s) where
    here : Got (record_at w at) s.next s.intervals
    here = step-good at (record_at w at) g e

    pub rec_full : {r : Refusal} → r ≡ refusal_at LIMIT at → left ≡ 0 → said (Err r) ≡ all
    unfolding counted_from
    rec_full h z = ap no_by h ∙ rw (parse_full w at used l left here.t s.next here.is z) at i

    pub rec_over : {r : Refusal} → r ≡ refusal_at LIMIT at → used ≤ 1024 → 1024 - used < s.intervals → said (Err r) ≡ all
    unfolding counted_from
    rec_over n u h = ap no_by n ∙ rw (parse-over w at used l left here.t s.next here.is (omega (arith, here.size))) at i

    pub rec_turn : (left ≡ 0 → ⊥) → left ≤ 256 → used ≤ 1024 → s.intervals ≤ 1024 - used →
        counted_from (256 - (left - 1)) (used + s.intervals) (parse_from w (left - 1) s.next (used + s.intervals)) ≡ all
    rec_turn z m u h =
        let one : left ≡ suc (left - 1) = omega arith in
        let up : suc (256 - left) ≡ 256 - (left - 1) = omega arith in
        let on : parse_from w left at used ≡ more here.t (parse_from w (left - 1) s.next (used + length (intervals here.t)))
        = ap (λ (n : ℕ). parse_from w n at used) one ∙ parse_on w at used l (left - 1) here.t s.next here.is (omega (arith, here.size)) in
        rw (← up, here.size) (sym (counted-more (256 - left) used here.t _) ∙ ap (counted_from (256 - left) used) (sym on) ∙ i)

pub rec_done : (w : List ℕ) (left at used : ℕ) {all : Said} → length w ≤ at →
    counted_from (256 - left) used (parse_from w left at used) ≡ all → said (Ok (record { count = 256 - left; intervals = used })) ≡ all
unfolding parse_from counted_from total
rec_done w left at used {all} l i = ap₂ {C = Said} (λ m k. ok (m ∷ k ∷ [])) (sym (add-zero (256 - left))) (sym (add-zero used)) ∙ ends left i
  where
    ends : (n : ℕ) → counted_from (256 - left) used (parse_from w n at used) ≡ all → ok ((256 - left + 0) ∷ (used + 0) ∷ []) ≡ all
    ends zero i = rw (le-ltb _ _ l) at i
    ends (suc n) i = rw (le-ltb _ _ l) at i

pub ruleset records = (rules, counted_start, rec_bad, rec_full, rec_over, rec_turn, rec_done)

-- `said` takes no two answers to one: what it says gives the answer back
abbrev back : Said → Result Transitions Refusal
back (ok l) = Ok (record { count = get_or l 0 0; intervals = get_or l 1 0 })
back (no_by r) = Err r

back-said : (x : Result Transitions Refusal) → back (said x) ≡ x
back-said (Ok t) = refl
back-said (Err r) = refl

pub said_one : (x y : Result Transitions Refusal) → said x ≡ said y → x ≡ y
said_one x y e = sym (back-said x) ∙ ap back e ∙ back-said y
