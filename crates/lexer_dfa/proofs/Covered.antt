-- Coverage on the room that decode leaves, and its refusals, by the own contracts of decode and coverage. Assumes nothing.
use Prim.Native.Nat.{ℕ, ◌≤◌, ◌<◌}
use native.Mathlib.Omega.{arith}
use mathlib.Core.Path.{◌≡◌, refl, sym, ap, subst, ◌∙◌}
use mathlib.Core.Bool.{Bool, true, false, false≢true}
use mathlib.Core.List.{List, [], ◌∷◌}
use lib.Dec.{ltb}
use lib.ListN.{length}
use borrow.Author.Tests.{ltb-true, ltb-false}
use Rattle.std.specs.Borrow.{Bor, MutBor}
use Rattle.refusal.specs.Said.{ok, no, STATE, NOT-TABLE}
use Rattle.refusal.proofs.Apart.{one_number, one_place}
use Rattle.refusal.specs.Lists.{pick}
use Rattle.room_decode.specs.Decode.{said}
use Rattle.room_judge.specs.Judge.{accepted, words_part, is_table}
use Rattle.law_tables.specs.Table.{Table, words_of, Fields}
use Rattle.law_tables.specs.Rules.{Rules}
use Rattle.law_tables.specs.Whole.{Fit}
use Rattle.law_round_trip.specs.Trip.{Trip}
use Rattle.law_round_trip.proofs.RoundTrip.{round_trip}
use Rattle.law_lookups.proofs.Held.{Held, held}
use Rattle.room_find.specs.Answer.{said as told}
use Rattle.room_coverage.specs.Coverage.{coverage_of}
use Rattle.room_coverage.specs.OnTable.{coverage_on}
use Rattle.room_coverage.proofs.Tables.{held_coverage}
use Rattle.lexer_dfa.specs.Demands.{DecodeAnswers, Accepted, Leaves, CoverageAnswers, CoveredBy}
use Rattle.lexer_dfa.proofs.Decoding.{decode_accepts, decode_refuses, table_room}
use Rattle.lexer_dfa.proofs.RoundTrip.{said-accepted, leaves_table, table_leaves, none_left}
use Rattle.std.specs.Prelude.{Result}
use Rattle.room_decode.specs.Decode.{Decoding}
use Rattle.room_find.specs.declared.Missing.{Missing}

-- where decode accepts, coverage counts the points at which the table's state goes on
pub decoded_coverage : (words : Bor (List ℕ)) (room : MutBor (List ℕ)) → Fit words.now → 16384 ≤ length room.now → (x : Decoding) (left : List ℕ) →
    DecodeAnswers words room x left →
    (modes states count : ℕ) → said x ≡ ok (modes ∷ states ∷ count ∷ []) →
    (a : Accepted words.now modes states count) × ((s : ℕ) → coverage_of left s ≡ coverage_on a.table s)
decoded_coverage words room f enough x left d modes states count e =
    let n = length room.now in
    let a : Accepted words.now modes states count = (decode_accepts words room f enough x left d modes states count).0 e in
    let t = a.table in
    let l = subst (λ v. length v ≤ 8192) a.layout a.limit in
    let is = table_room words room enough x left d modes states count a in
    let k : Held t left = subst (Held t) is (held t a.fields l n) in
    let trip : Trip words.now n = round_trip words.now n f (ap accepted (sym d.2.0) ∙ said-accepted x e) in
    let h : is_table left ≡ true = subst (λ v. is_table v ≡ true) (sym (sym d.3 ∙ d.2.1)) trip.held in
    (a, held_coverage t a.fields a.rules left k h)

-- an answer is no refusal, and STATE is not NOT-TABLE
ok_no : {l : List ℕ} {k p : ℕ} → ok l ≡ no k p → ⊥
ok_no e = let z : ◌≡◌ {A = ℕ} 0 1 = cc in absurd (omega arith)

on_table : (t : Table) (s p : ℕ) → coverage_on t s ≡ no NOT-TABLE p → ⊥
on_table t s p e = go (ltb s (length t.states)) _ e
  where
    go : (b : Bool) (l : List ℕ) → pick b (ok l) (no STATE 0) ≡ no NOT-TABLE p → ⊥
    go true l i = ok_no i
    go false l i = let z : STATE ≡ NOT-TABLE = one_number i in absurd (omega arith)

-- a room in which decode leaves a table has room for one
left_enough : {w d : List ℕ} → Leaves w d → 16384 ≤ length d
left_enough {w} {d} l = go (ltb (length d) 16384) refl
  where
    go : (b : Bool) → ltb (length d) 16384 ≡ b → 16384 ≤ length d
    go true i =
        let f = subst Fit (sym l.are_words) l.fit in
        let short = subst (λ n. n < 16384) (sym l.as_long) (ltb-true (length d) 16384 i) in
        absurd (ok_no (sym l.accepted ∙ ((decode_refuses l.words l.room f l.answer d l.leaves).room 0).1 (refl, short)))
    go false i = ltb-false (length d) 16384 i

-- and for that table coverage counts
left_counts : {w d : List ℕ} → Leaves w d → (s : ℕ) → (t : Table) × (w ≡ words_of t) × Fields t × Rules t × (coverage_of d s ≡ coverage_on t s)
left_counts {w} {d} l s =
    let f = subst Fit (sym l.are_words) l.fit in
    let enough = subst (λ n. 16384 ≤ n) (sym l.as_long) (left_enough l) in
    let c = decoded_coverage l.words l.room f enough l.answer d l.leaves l.modes l.states l.count l.accepted in
    (c.0.table, sym l.are_words ∙ c.0.layout, c.0.fields, c.0.rules, c.1 s)

-- a room that is no table is refused
says_no_table : (d : List ℕ) (s : ℕ) → is_table d ≡ false → coverage_of d s ≡ no NOT-TABLE 0
unfolding coverage_of
says_no_table d s h = rw h

-- The call, by its own contract: "Encoding and coverage give NOT-TABLE exactly when the room isn't what decoding leaves for some accepted words". As of the
-- words of decode, that the room's numbers have 32 bits is a premise
pub coverage_answers : (room : Bor (List ℕ)) → Fit room.now → (s : ℕ) (x : Result ℕ Missing) → CoverageAnswers room s x → CoveredBy room.now s (told x)
coverage_answers room f s x a =
    let d = room.now in
    let own = table_leaves (a.0.0, (a.0.0, tt)) room f in
    subst (CoveredBy d s) (sym a.2)
    (record {
      not_table_lem = λ p. (
        λ e. let h = none_left d 0 (λ t. let c = left_counts (own t) s in on_table c.0 s p (sym c.4 ∙ e)) in
            (sym (one_place (sym (says_no_table d s h) ∙ e)), λ w l. false≢true (sym h ∙ (leaves_table l).0)),
        λ h. says_no_table d s (none_left d 0 (λ t. h.1 (words_part d) (own t))) ∙ ap (no NOT-TABLE) (sym h.0),
      );
      counts = λ w l. left_counts l s;
    })
