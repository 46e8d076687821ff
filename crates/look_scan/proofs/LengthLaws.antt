-- The scan by the words of a run, by the tests that reading makes. Assumes nothing.
use Prim.Native.Nat.{ℕ, ◌+◌, ◌-◌, ◌%◌, ◌<◌, ◌≤◌}
use mathlib.Core.Path.{◌≡◌, refl, ap, ◌∙◌}
use mathlib.Core.List.{List}
use lib.ListN.{length, get_or}
use borrow.Author.Rules.{rules}
use Rattle.std.specs.Prelude.{Result, Option, Ok, Err, None}
use Rattle.refusal.specs.declared.Refusal.{Refusal}
use Rattle.refusal.specs.Said.{refusal_at, SHORT, NOT-TABLE}
use Rattle.refusal.specs.Lists.{every}
use Rattle.run_ranges.specs.Ranges.{ranges_of_run}
use Rattle.run_shape.specs.declared.AsciiRunScan.{AsciiRunScan}
use Rattle.run_shape.specs.Shape.{Got, refused, held}
use Rattle.run_shape.specs.Words.{read_at, short_run, or_field, kind_of, bytes_of, ranges_run}
use Rattle.run_shape.specs.Scan.{scan_of, scan_by}
use Rattle.run_shape.proofs.Reading.{read_end, read_short, read_cut, read_ranges}
use Rattle.look_runs.specs.StateRun.{judged}

-- the word 0 is none
pub zero_scan : (at word : ℕ) (bs : List ℕ) → word ≡ 0 → Ok None ≡ scan_by (judged (short_run at (kind_of word) (bytes_of word))) bs
unfolding short_run or_field every held scan_of
zero_scan at word bs e = rw e

module _ (w : List ℕ) (at : ℕ) (bs : List ℕ) {all : Result (Option AsciiRunScan) Refusal} where
  as_read : {g : Got} → g ≡ read_at w at → all ≡ scan_by (judged g) bs → all ≡ scan_by (judged (read_at w at)) bs
  as_read h e = e ∙ ap (λ (x : Got). scan_by (judged x) bs) h

  pub end_scan : length w ≤ at → all ≡ Err (refusal_at NOT-TABLE 0) → all ≡ scan_by (judged (read_at w at)) bs
  end_scan l e = as_read (read_end w at {r = refused SHORT (length w)} refl l) e

  pub word_scan : at < length w → (get_or w at 0 % 256 ≡ 5 → ⊥) → all ≡ scan_by (judged (short_run at (kind_of (get_or w at 0)) (bytes_of (get_or w at 0)))) bs
      → all ≡ scan_by (judged (read_at w at)) bs
  word_scan l n e = as_read (read_short w at refl l n) e

  pub cut_scan : at < length w → get_or w at 0 % 256 ≡ 5 → length w - at < 3 → all ≡ Err (refusal_at NOT-TABLE 0) → all ≡ scan_by (judged (read_at w at)) bs
  cut_scan l k s e = as_read (read_cut w at {r = refused SHORT (length w)} refl l k s) e

  pub words_scan : at < length w → get_or w at 0 % 256 ≡ 5 → 3 ≤ length w - at
      → all ≡ scan_by (judged (ranges_run at (ranges_of_run (get_or w at 0) (record { first = get_or w (at + 1) 0; second = get_or w (at + 2) 0 })))) bs
      → all ≡ scan_by (judged (read_at w at)) bs
  words_scan l k s e = as_read (read_ranges w at refl l k s) e

pub ruleset scanning = (rules, zero_scan, end_scan, word_scan, cut_scan, words_scan)
