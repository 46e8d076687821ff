-- Where the calls for masks and rows answer, their list was read, and what they tell is that list's. Assumes nothing.
use Prim.Native.Nat.{ℕ}
use native.Mathlib.Omega.{arith}
use mathlib.Core.Path.{◌≡◌, refl, sym, ap, subst, ◌∙◌}
use mathlib.Core.Bool.{true}
use mathlib.Core.List.{List}
use lib.ListN.{length}
use Rattle.list_transitions.specs.Transition.{Transition}
use Rattle.list_transitions.specs.Read.{Parsed, parsed, refused, parse, is_parsed, accepted}
use Rattle.list_masks.specs.Masks.{words_for, distinct_of}
use Rattle.list_masks.specs.Answer as masks
use Rattle.list_masks.specs.Answer.{parse_distinct}
use Rattle.list_distinct.proofs.PlaceAnswers.{accepted_list}
use Rattle.row_build.specs.Answer.{too_short, Builds}
use Rattle.row_build.proofs.Asking.{rows_asked}
use Rattle.lexer_dfa.specs.Demand3.{ListAccepted, list_of, RowArgs, RowsLeft, BuildAnswers, RowsKept}
use Rattle.lexer_dfa.specs.ListsRefused.{lent_by}
use Rattle.lexer_dfa.proofs.Demand3.{Laid, built_laid, built_parsed, given, laid_kept}
use Rattle.std.specs.Prelude.{Ok}

pub listed_is : (x : Parsed) {ts : List Transition} → x ≡ parsed ts → (is_parsed x ≡ true) × (ts ≡ accepted x)
unfolding is_parsed accepted
listed_is x e = (ap is_parsed e, sym (ap accepted e))

-- where the row call answers rows, its list is accepted, with a target and a continuation for each distinct mask, and the rows are the list's
pub record RowsOf (a : RowArgs) (n m : ℕ) (l : RowsLeft) : Type 0 where
  pub good : ListAccepted a.list.now
  pub a_target_each : length a.targets.now ≡ length (distinct_of (list_of a.list.now))
  pub a_continuation_each : length a.conts.now ≡ length (distinct_of (list_of a.list.now))
  pub laid : Laid (list_of a.list.now) a.targets.now a.conts.now n m l

pub rows_of : (a : RowArgs) (n m : ℕ) (l : RowsLeft) → BuildAnswers a (Ok (record { wide = n; escape = m })) l → RowsOf a n m l
rows_of a n m l b =
    let w = a.list.now in
    let f = given a (Ok (record { wide = n; escape = m })) l b in
    let built = built_parsed _ f.built in
    let ts = built.0 in
    let asked = rows_asked (length a.targets.now) (length a.conts.now) (too_short (length a.ascii.now) (length a.wide.now)
    (length a.escape.now)) (parse_distinct (length a.segments.now) (length a.masks.now) (length a.distinct.now) w) built.1 in
    let read = listed_is (parse w) (accepted_list (length a.segments.now) (length a.masks.now) (length a.distinct.now) w ts asked.0) in
    let as_many : length (distinct_of ts) ≡ length (distinct_of (list_of w)) = ap (λ (x : List Transition). length (distinct_of x)) read.1 in
    record {
      good = read.0;
      a_target_each = asked.1 ∙ as_many;
      a_continuation_each = asked.2 ∙ as_many;
      laid =
          subst (λ (x : List Transition). Laid x a.targets.now a.conts.now n m l) read.1
          (built_laid ts (subst (λ (x : Parsed). Builds (Ok (record { wide = n; escape = m })) (lent_by a) f.segments f.masks l.distinct l.ascii l.wide l.escape
          a.targets.now a.conts.now x) built.1 f.built));
    }

-- THEOREM: wherever the call answers rows, what is looked up in them is what was given
pub built_kept : (a : RowArgs) (n m : ℕ) (l : RowsLeft) → BuildAnswers a (Ok (record { wide = n; escape = m })) l →
    RowsKept a.list.now a.targets.now a.conts.now (Ok (record { wide = n; escape = m })) l
built_kept a n m l b = let r = rows_of a n m l b in laid_kept a.list.now a.targets.now a.conts.now r.good r.a_target_each r.laid

-- a call for masks answers those that f gives a list that was read
pub record CountedBy (f : List Transition → List (List ℕ)) (n k : ℕ) (x : Parsed) : Type 0 where
  pub ts : List Transition
  pub is : x ≡ parsed ts
  pub count : n ≡ length (f ts)
  pub words : k ≡ words_for (length ts)

pub counted_by : (f : List Transition → List (List ℕ)) {n k : ℕ} (x : Parsed) → masks.said (Ok (record { masks = n; words = k })) ≡ masks.counted f x → CountedBy f n k x
unfolding masks.counted
counted_by f (parsed ts) e = record { ts = ts; is = refl; count = cc; words = cc }
counted_by f (refused k p) e = let z : ◌≡◌ {A = ℕ} 0 1 = cc in absurd (omega arith)
