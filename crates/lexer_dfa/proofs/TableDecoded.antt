-- Words tell their table: where decode accepts the words of a table, lookups, scans and coverage on the room are told of this table. Assumes nothing.
use Prim.Native.Nat.{ℕ, ◌≤◌, ◌<◌}
use mathlib.Core.Path.{◌≡◌, sym, subst, ◌∙◌}
use mathlib.Core.List.{List, [], ◌∷◌}
use lib.ListN.{length}
use Rattle.std.specs.Borrow.{Bor, MutBor}
use Rattle.refusal.specs.Said.{ok}
use Rattle.room_decode.specs.Decode.{said}
use Rattle.law_tables.specs.Table.{Table, words_of, Fields}
use Rattle.law_tables.specs.Rules.{row_of}
use Rattle.law_tables.specs.Whole.{Fit}
use Rattle.law_tables.proofs.Unique.{words_tell}
use Rattle.law_lookups.specs.Looks.{Looks}
use Rattle.law_lookups.specs.Never.{Never}
use Rattle.room_coverage.specs.Coverage.{coverage_of}
use Rattle.room_coverage.specs.OnTable.{coverage_on}
use Rattle.lexer_dfa.specs.Demands.{DecodeAnswers, Accepted, AsciiOnly, LoopsOn, ScansLongest, state_tells, StateScanAnswers, StateScanLengthAnswers}
use Rattle.lexer_dfa.proofs.Decoding.{decode_accepts}
use Rattle.lexer_dfa.proofs.Looking.{decoded_looks, state_scan_is_longest}
use Rattle.lexer_dfa.proofs.Covered.{decoded_coverage}
use Rattle.std.specs.Prelude.{Result, Option, Ok, None}
use Rattle.room_decode.specs.Decode.{Decoding}
use Rattle.run_shape.specs.declared.AsciiRunScan.{AsciiRunScan}
use Rattle.refusal.specs.declared.Refusal.{Refusal}

-- the words of t were decoded, and left this room
module _ (words : Bor (List ℕ)) (room : MutBor (List ℕ)) (f : Fit words.now) (enough : 16384 ≤ length room.now) (x : Decoding) (left : List ℕ)
    (d : DecodeAnswers words room x left) (modes states count : ℕ) (e : said x ≡ ok (modes ∷ states ∷ count ∷ [])) (t : Table)
    (is : words.now ≡ words_of t) (h : Fields t) where
  -- the table that was accepted is t
  one_table : (a : Accepted words.now modes states count) → a.table ≡ t
  one_table a = words_tell a.table t a.fields h (sym a.layout ∙ is)

  -- a state that is told of is one of the table's
  pub state_there : (s : ℕ) → s < states → s < length t.states
  state_there s there =
      let a : Accepted words.now modes states count = (decode_accepts words room f enough x left d modes states count).0 e in
      subst (λ (u : Table). s < length u.states) (one_table a) (subst (λ (k : ℕ). s < k) a.of_states there)

  -- THEOREM: lookups on the room give what t says, and NOT-TABLE is "never met"
  pub table_looked : Looks t left × Never left
  table_looked =
      let o = decoded_looks words room f enough x left d modes states count e in
      (subst (λ (u : Table). Looks u left) (one_table o.0) o.1, o.2)

  -- THEOREM: coverage counts the points at which a state of t goes on
  pub table_covered : (s : ℕ) → coverage_of left s ≡ coverage_on t s
  table_covered s =
      let o = decoded_coverage words room f enough x left d modes states count e in
      subst (λ (u : Table). coverage_of left s ≡ coverage_on u s) (one_table o.0) (o.1 s)

  -- THEOREM: "Over ASCII-only bytes, a state's run, where it has one, is the longest front part on which it loops": the scans by the run of a state of t, in
  -- any room that has the numbers that decode left
  pub table_scan_is_longest : (lent : Bor (List ℕ)) → lent.now ≡ left → (s : ℕ) → s < states → (input : Bor (List ℕ)) → AsciiOnly input.now →
      (part : Bor (List ℕ)) → StateScanAnswers lent s input part → (says : Result (Option AsciiRunScan) Refusal) → StateScanLengthAnswers lent s input says → (says ≡ Ok None → ⊥) →
      ScansLongest state_tells (LoopsOn s (row_of t s)) input part says
  table_scan_is_longest lent now s there input ascii part p says q some =
      let o = state_scan_is_longest words room f enough x left d modes states count e lent now s there input ascii part p says q some in
      subst (λ (u : Table). ScansLongest state_tells (LoopsOn s (row_of u s)) input part says) (one_table o.0) o.1
