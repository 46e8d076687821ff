-- The laws that the functions cite. Assumes nothing.
use Prim.Native.Nat.{ℕ, zero, suc, ◌+◌, ◌-◌, ◌*◌, ◌^◌, ◌≤◌, ◌<◌}
use native.Mathlib.Omega.{arith}
use mathlib.Core.Path.{◌≡◌, refl, sym, ap, ◌∙◌}
use mathlib.Core.Bool.{Bool, true, false}
use mathlib.Core.List.{List, [], ◌∷◌}
use lib.Dec.{ltb, eqb}
use lib.ListN.{get_or}
use mir.Syntax.{w32, w64}
use mir.Val.{Fits, bool_byte}
use borrow.Author.Rules.{rules}
use borrow.Author.Tests.{le-leb, lt-leb, lt-ltb, le-ltb, eq-eqb, ne_eqb, ltb-true, ltb-false}
use Rattle.refusal.specs.Said.{Said, ok, no, NOT-TABLE}
use Rattle.refusal.specs.Lists.{pick}
use Rattle.refusal.specs.declared.Refusal.{Refusal}
use Rattle.refusal.specs.Fixed.{DEAD-STATE}
use Rattle.word_reader.specs.declared.Sections.{Sections}
use Rattle.std.specs.Prelude.{Result, Ok, Err, min}
use Rattle.word_layout.specs.Layout.{Layout}
use Rattle.room_find.specs.declared.Missing.{Missing}
use Rattle.room_find.specs.declared.Missing.TheVariants.{Absent, Outside}
use Rattle.room_find.specs.Answer.{refused}
use Rattle.room_find.specs.Room.{state_at, of_state, follow}
use Rattle.room_find.proofs.Records.{there, oflist}
use Rattle.room_judge.specs.Judge.{is_table, table_in}
use Rattle.room_judge.proofs.Tables.{found_table, unfound_table}
use Rattle.room_coverage.specs.Coverage.{not_dead, goes_on, count, covered, coverage_of}
use Rattle.room_coverage.specs.Spans.{below, span, spans, wide_spans}
use Rattle.room_coverage.proofs.Counts.{count_most, count-start, count_next}
use Rattle.room_coverage.proofs.Tables.{Numbers, state_covered}

-- no target is told where the state is missing
pub none_told : (m : Missing) → false ≡ not_dead (refused m)
none_told Absent = refl
none_told Outside = refl

-- by the tests on the way
pub ruleset cases = (rules, le-leb, lt-leb, lt-ltb, le-ltb, eq-eqb, ne_eqb)

-- Points below a number

pub below_is : (x : ℕ) {m r : ℕ} → m ≡ min x 1114112 → r ≡ m - 128 → r ≡ below x
unfolding below
below_is x k l = l ∙ ap (λ (n : ℕ). n - 128) k ∙ go (ltb x 128) (ltb x 1114112) refl refl
  where
    go : (a b : Bool) → ltb x 128 ≡ a → ltb x 1114112 ≡ b → min x 1114112 - 128 ≡ pick a 0 (pick b (x - 128) 1113984)
    go true b e f = omega (arith, ltb-true x 128 e)
    go false true e f = omega (arith, ltb-true x 1114112 f)
    go false false e f = omega (arith, ltb-false x 1114112 f)

below_most : (x : ℕ) → below x ≤ 1113984
unfolding below
below_most x = go (ltb x 128) (ltb x 1114112) refl
  where
    go : (a b : Bool) → ltb x 1114112 ≡ b → pick a 0 (pick b (x - 128) 1113984) ≤ 1113984
    go true b e = omega arith
    go false true e = omega (arith, ltb-true x 1114112 e)
    go false false e = omega arith

-- The points of ranges

span_most : (low high target : ℕ) → span low high target ≤ 1113984
unfolding span
span_most low high target = go (eqb target DEAD-STATE)
  where
    go : (b : Bool) → pick b 0 (below (high + 1) - below low) ≤ 1113984
    go true = omega arith
    go false = omega (arith, below_most (high + 1))

module _ (w : List ℕ) where
  pub spans_most : (n at : ℕ) → spans w n at ≤ n * 1113984
  unfolding spans
  spans_most zero at = omega arith
  spans_most (suc n) at = omega (arith, span_most (get_or w at 0) (get_or w (at + 1) 0) (get_or w (at + 2) 0), spans_most n (at + 3))

-- a dead range has no points; of any other they are counted
module _ (low high target : ℕ) where
  pub dead_range : target ≡ DEAD-STATE → 0 ≡ span low high target
  unfolding span
  dead_range e = rw (eq-eqb target DEAD-STATE e)

  pub live_range : {a b r : ℕ} → (target ≡ DEAD-STATE → ⊥) → a ≡ below (high + 1) → b ≡ below low → r ≡ a - b → r ≡ span low high target
  unfolding span
  live_range z p q e = e ∙ (rw (p, q, ne_eqb target DEAD-STATE z))

pub ruleset ranging = (rules, dead_range, live_range)

-- one range is counted, and n - i are left
module _ (w : List ℕ) (n i here points : ℕ) {all : ℕ} (k : points + spans w (n - i) here ≡ all) where
  pub spans-next : {more : ℕ} → i < n → more ≡ span (get_or w here 0) (get_or w (here + 1) 0) (get_or w (here + 2) 0)
      → points + more + spans w (n - (i + 1)) (here + 3) ≡ all
  unfolding spans
  spans-next h e = let j : n - i ≡ suc (n - (i + 1)) = omega arith in omega (arith, rw j at k, e)

  pub spans_done : n ≤ i → points ≡ all
  unfolding spans
  spans_done h = let j : n - i ≡ 0 = omega arith in omega (arith, rw j at k)

pub spans-start : (w : List ℕ) (n at : ℕ) → 0 + spans w (n - 0) at ≡ spans w n at
spans-start w n at = let j : n - 0 ≡ n = omega arith in rw j (omega arith)

-- the sum of all is a number of 64 bits
pub points_fit : (w : List ℕ) (n i here at points : ℕ) {more : ℕ} → i < n → points + spans w (n - i) here ≡ spans w n at
    → more ≡ span (get_or w here 0) (get_or w (here + 1) 0) (get_or w (here + 2) 0)
    → n < 2 ^ 32 → Fits w64 (points + more)
points_fit w n i here at points h k e f = record { fits = omega (arith, spans-next w n i here points k h e, spans_most w n at) }

pub ruleset counting = (rules, spans-next, spans_done, spans-start, points_fit)

-- Points that are asked one by one

module _ (d : List ℕ) (s x : ℕ) {points : ℕ} {b : Bool} {more : ℕ} (p : points ≡ count (goes_on d s) x) (g : b ≡ goes_on d s x) (e : more ≡ bool_byte b) where
  pub points-next : points + more ≡ count (goes_on d s) (x + 1)
  points-next = let h : more ≡ pick (goes_on d s x) 1 0 = e ∙ ap bool_byte g ∙ one (goes_on d s x) in omega (arith, p, h, count_next (goes_on d s) x)
    where
      one : (b : Bool) → bool_byte b ≡ pick b 1 0
      one true = refl
      one false = refl

  pub points_few : x < 128 → Fits w32 (points + more)
  points_few l = record { fits = omega (arith, points-next, count_most (goes_on d s) (x + 1)) }

pub points_done : (d : List ℕ) (s x : ℕ) {points : ℕ} → points ≡ count (goes_on d s) x → x ≤ 128 → 128 ≤ x → points ≡ count (goes_on d s) 128
points_done d s x p l m = let e : x ≡ 128 = omega arith in p ∙ ap (count (goes_on d s)) e

pub ruleset asking = (rules, count-start, points-next, points_few, points_done)

-- What a record that is missing gives, whether it is absent or outside

pub gone : (x : Result ℕ Missing) (f : ℕ → ℕ) (a : ℕ) {m : Missing} {got : Result ℕ Missing} → got ≡ x → got ≡ Err m → a ≡ follow x f a a
unfolding follow
gone x f a {m} g e = go m (sym g ∙ e)
  where
    go : (m : Missing) → x ≡ Err m → a ≡ follow x f a a
    go Absent i = rw i
    go Outside i = rw i

pub state_gone : (d : List ℕ) (s : ℕ) (f : ℕ → Said) {m : Missing} {got : Result ℕ Missing} → got ≡ state_at d s → got ≡ Err m → refused m ≡ of_state d s f
unfolding follow
state_gone d s f {m} g e = go m (sym g ∙ e)
  where
    go : (m : Missing) → state_at d s ≡ Err m → refused m ≡ of_state d s f
    go Absent i = rw i
    go Outside i = rw i

-- A wide row that is found is there

pub ruleset following = (rules, there, gone, oflist)

-- All points of a state of a table

module _ (d : List ℕ) (s : ℕ) {p a b : ℕ} {got : Result ℕ Missing} (f : Numbers d) (h : is_table d ≡ true) (g : got ≡ state_at d s) (e : got ≡ Ok p)
    (i : a ≡ count (goes_on d s) 128) (j : b ≡ wide_spans d (get_or d (p + 1) 0)) where
  points_are : a + b ≡ covered d s
  points_are = ap (λ n. n + b) i ∙ ap (λ n. count (goes_on d s) 128 + n) j ∙ state_covered d f h s p (sym g ∙ e)

  pub points_most : a + b ≤ 1114112
  unfolding covered
  points_most = omega (arith, points_are, count_most (goes_on d s) 1114112)

  pub points_told : ok ((a + b) ∷ []) ≡ of_state d s (λ p. ok (covered d s ∷ []))
  points_told = there (state_at d s) (λ p. ok (covered d s ∷ [])) _ _ g e (ap (λ m. ok (m ∷ [])) points_are)

-- The room is judged first

module _ (d : List ℕ) (s : ℕ) {got : Layout} (g : got ≡ table_in d) where
  pub is_table_lem : {f : Sections} → got ≡ Ok f → is_table d ≡ true
  is_table_lem e = (found_table d (sym g ∙ e)).0

  pub in_table : {f : Sections} {y : Said} → got ≡ Ok f → y ≡ of_state d s (λ p. ok (covered d s ∷ [])) → y ≡ coverage_of d s
  unfolding coverage_of
  in_table e h = h ∙ (rw (found_table d (sym g ∙ e)).0)

  pub no_table : {o : Refusal} → got ≡ Err o → no NOT-TABLE 0 ≡ coverage_of d s
  unfolding coverage_of
  no_table e = rw (unfound_table d (sym g ∙ e))

pub ruleset judging = (rules, is_table_lem, in_table, no_table)
