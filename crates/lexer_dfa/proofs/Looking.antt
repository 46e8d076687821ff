-- Lookups on the room that decode leaves, by decode's own contract. Assumes nothing.
use Prim.Native.Nat.{ℕ, ◌≤◌, ◌<◌}
use mathlib.Core.Path.{◌≡◌, refl, sym, ap, subst, ◌∙◌}
use mathlib.Core.Bool.{Bool}
use mathlib.Core.List.{List, [], ◌∷◌}
use lib.Dec.{eqb, ltb}
use lib.ListN.{length, get_or}
use Rattle.std.specs.Borrow.{Bor, MutBor}
use borrow.Author.Tests.{lt-ltb}
use Rattle.refusal.specs.Said.{Said, ok, no, no_by, STATE}
use Rattle.refusal.specs.Lists.{pick}
use Rattle.refusal.proofs.Flags.{flag-back}
use Rattle.run_shape.specs.Shape.{none}
use Rattle.run_shape.specs.Classify.{classification}
use Rattle.run_shape.specs.Scan.{skipped, scan_of, scan_said, scanned_by, result_said}
use Rattle.run_classify.proofs.Described.{run_said}
use Rattle.look_runs.specs.StateRun.{ascii_run, skipped_by}
use Rattle.room_decode.specs.Decode.{said}
use Rattle.law_tables.specs.Rules.{row_of}
use Rattle.law_tables.specs.Whole.{Fit}
use Rattle.law_tables.proofs.Classified.{state_row_long}
use Rattle.law_lookups.specs.Looks.{Looks}
use Rattle.law_lookups.specs.Never.{Never}
use Rattle.law_lookups.proofs.Rooms.{room_looks, room_never}
use Rattle.lexer_dfa.specs.Demands.{DecodeAnswers, Accepted, AsciiOnly, LoopsOn, ScansLongest, state_tells, StateScanAnswers, StateScanLengthAnswers}
use Rattle.lexer_dfa.proofs.Demand2.{run_is_longest}
use Rattle.lexer_dfa.proofs.Decoding.{decode_accepts, table_room}
use Rattle.std.specs.Prelude.{Result, Ok, Err, Option, Some, None}
use Rattle.room_decode.specs.Decode.{Decoding}
use Rattle.run_shape.specs.declared.AsciiRunScan.{AsciiRunScan}
use Rattle.refusal.specs.declared.Refusal.{Refusal}

-- where decode accepts, lookups on the room give what the table says, and NOT-TABLE is "never met"
pub decoded_looks : (words : Bor (List ℕ)) (room : MutBor (List ℕ)) → Fit words.now → 16384 ≤ length room.now → (x : Decoding) (left : List ℕ) →
    DecodeAnswers words room x left →
    (modes states count : ℕ) → said x ≡ ok (modes ∷ states ∷ count ∷ []) → (a : Accepted words.now modes states count) × Looks a.table left × Never left
decoded_looks words room f enough x left d modes states count e =
    let n = length room.now in
    let a : Accepted words.now modes states count = (decode_accepts words room f enough x left d modes states count).0 e in
    let t = a.table in
    let l = subst (λ v. length v ≤ 8192) a.layout a.limit in
    let is = table_room words room enough x left d modes states count a in
    (a, subst (Looks t) is (room_looks t a.fields a.rules l n), subst Never is (room_never t a.fields a.rules l n))

-- what a scan by a state says takes no two answers to one: what it says gives the answer back
abbrev answer_back : List ℕ → Option AsciiRunScan
answer_back [] = None
answer_back (n ∷ l) = Some (record { bytes = n; found_exit = eqb (get_or l 0 0) 1 })

abbrev back : Said → Result (Option AsciiRunScan) Refusal
back (ok l) = Ok (answer_back l)
back (no_by r) = Err r

back-said : (x : Result (Option AsciiRunScan) Refusal) → back (result_said x) ≡ x
back-said (Ok None) = refl
back-said (Ok (Some s)) = ap (λ (b : Bool). Ok (Some (record { bytes = s.bytes; found_exit = b }))) (flag-back s.found_exit)
back-said (Err r) = refl

pub result_said_one : (x y : Result (Option AsciiRunScan) Refusal) → result_said x ≡ result_said y → x ≡ y
result_said_one x y e = sym (back-said x) ∙ ap back e ∙ back-said y

none_said : (bs : List ℕ) → scan_said none bs ≡ ok []
unfolding scan_of
none_said bs = refl

-- "Over ASCII-only bytes, a state's run, where it has one, is the longest front part on which it loops": the scans by the run of a state, in any room that has
-- the numbers that decode left
pub state_scan_is_longest : (words : Bor (List ℕ)) (room : MutBor (List ℕ)) → Fit words.now → 16384 ≤ length room.now → (x : Decoding) (left : List ℕ) →
    DecodeAnswers words room x left →
    (modes states count : ℕ) → said x ≡ ok (modes ∷ states ∷ count ∷ []) →
    (lent : Bor (List ℕ)) → lent.now ≡ left → (s : ℕ) → s < states → (input : Bor (List ℕ)) → AsciiOnly input.now →
    (part : Bor (List ℕ)) → StateScanAnswers lent s input part → (says : Result (Option AsciiRunScan) Refusal) → StateScanLengthAnswers lent s input says → (says ≡ Ok None → ⊥) →
    (a : Accepted words.now modes states count) × ScansLongest state_tells (LoopsOn s (row_of a.table s)) input part says
state_scan_is_longest words room f enough x left d modes states count e lent is s there input ascii part p says q some =
    let h = decoded_looks words room f enough x left d modes states count e in
    let a = h.0 in
    let t = a.table in
    let looks = h.1 in
    let bs = input.now in
    let l : s < length t.states = subst (λ n. s < n) a.of_states there in
    let c = classification s (row_of t s) in
    let n = skipped c bs in
    let told : result_said says ≡ scan_said c bs =
    ap result_said q.2 ∙ ap (λ w. scanned_by (ascii_run w s) bs) is ∙ looks.scan s bs ∙ ap (λ b. pick b (scan_said c bs) (no STATE 0)) (lt-ltb _ _ l) in
    let skips : skipped_by (ascii_run lent.now s) bs ≡ n =
    ap (λ w. skipped_by (ascii_run w s) bs) is ∙ looks.scan_part s bs ∙ ap (λ b. pick b n 0) (lt-ltb _ _ l) in
    let runs : c ≡ none → ⊥ = λ u. some (result_said_one says (Ok None) (told ∙ ap (λ r. scan_said r bs) u ∙ none_said bs)) in (
      a,
      record {
        bytes = n;
        longest = run_is_longest s (row_of t s) (state_row_long t a.fields a.rules.rule2 s l) runs bs ascii;
        front = rw skips at p.2.0;
        itself = p.2.1;
        told = result_said_one says (state_tells n (ltb n (length bs))) (told ∙ run_said c bs runs);
      },
    )
