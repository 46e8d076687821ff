-- Demand 2 on runs: over ASCII-only bytes, a state's run, where it has one, is the longest front part on which the state loops.
-- For the run stops a byte below 128 exactly where the byte's target is not the state. Assumes nothing.
use Prim.Native.Nat.{ℕ, ◌≤◌, ◌<◌}
use native.Mathlib.Omega.{arith}
use mathlib.Core.Path.{◌≡◌, refl, sym, ◌∙◌}
use mathlib.Core.Bool.{Bool, true, false, false≢true}
use mathlib.Core.List.{List}
use lib.Dec.{leb}
use lib.ListN.{length, get_or}
use Rattle.std.specs.Borrow.{Bor}
use borrow.Author.Tests.{eqb-true, leb-true, leb-false, not-false}
use Rattle.refusal.specs.Lists.{before}
use Rattle.refusal.proofs.Lists.{before_≤, not_eqb}
use Rattle.refusal.proofs.Fronts.{before-front, before_at}
use Rattle.run_ranges.specs.Ranges.{loops_at, exits_at, ranges_from}
use Rattle.run_ranges.proofs.Maximal.{passing-row, ranges_hold, ranges_ordered}
use Rattle.run_shape.specs.declared.AsciiRun.{AsciiRun}
use Rattle.run_shape.specs.declared.AsciiRun.TheVariants as runs
use Rattle.run_shape.specs.Shape.{Shape, none, any, until, ranges}
use Rattle.run_shape.specs.Classify.{exits_from, classification}
use Rattle.run_shape.specs.Scan.{stops, skipped, skipped_to, scan_of}
use Rattle.run_classify.proofs.Described.{exits_hold, exits_ascend, gives_any, gives_until, gives_ranges, gives_none}
use Rattle.run_classify.proofs.Described.{classification-stops, ran_row, ran_shape, ran_some}
use Rattle.lexer_dfa.specs.Demands.{AsciiOnly, LoopsOn, Longest, ScansLongest, run_tells, ClassifyAnswers, ScanAnswers, ScanLengthAnswers, Described}
use Rattle.std.specs.Prelude.{Ok, Option, Some}
use Rattle.run_shape.specs.Shape.{Got}
use Rattle.run_shape.specs.declared.AsciiRunScan.{AsciiRunScan}

-- Classification.

-- the run of a row is the one that document 01 describes
pub classification_described : (state : ℕ) (row : List ℕ) → length row ≡ 128 → Described state row (classification state row)
classification_described state row w =
    let es = exits_from state 0 row in
    let rs = ranges_from state 0 row in
    record {
      exits = es;
      looping = rs;
      are_exits = record { exact = λ b. exits_hold state 0 row b ∙ passing-row (exits_at state) row b; ascending = exits_ascend state 0 row };
      are_ranges = record { exact = λ b. ranges_hold state 0 row b ∙ passing-row (loops_at state) row b; apart = ranges_ordered state row w };
      no_exit = gives_any es rs;
      few_exits = gives_until es rs;
      few_ranges = gives_ranges es rs;
      else_none = gives_none es rs;
    }

-- The longest front part.

-- `Longest` says what its name says: no front part on which P holds is longer
pub no_longer : {P : ℕ → Type 0} {bs : List ℕ} {n : ℕ} → Longest P bs n → (m : ℕ) → m ≤ length bs → ((i : ℕ) → i < m → P (get_or bs i 0)) → m ≤ n
no_longer {n} l m h p = cases (leb m n) refl where
  cases : (t : Bool) → leb m n ≡ t → m ≤ n
  cases true e = leb-true m n e
  cases false e = let k : n < m = leb-false m n e in absurd (l.stops (omega arith) (p n k))

-- a search is as long as the longest front part on which P holds, if its test holds exactly where P does not
before_longest : (p : ℕ → Bool) (P : ℕ → Type 0) (bs : List ℕ) → ((i : ℕ) → i < length bs → p (get_or bs i 0) ≡ false → P (get_or bs i 0)) →
    ((i : ℕ) → i < length bs → P (get_or bs i 0) → p (get_or bs i 0) ≡ false) → Longest P bs (before p bs)
before_longest p P bs f g =
    let l = before_≤ p bs in
    record {
      within = l;
      holds = λ i h. f i (omega arith) (before-front p bs i h);
      stops = λ h e. false≢true (sym (g (before p bs) h e) ∙ before_at p bs h);
    }

-- over ASCII-only bytes, the run of a row at a state skips the longest front part on which the state loops
pub run_is_longest : (state : ℕ) (row : List ℕ) → length row ≡ 128 → (classification state row ≡ none → ⊥) → (bs : List ℕ) → AsciiOnly bs →
    Longest (LoopsOn state row) bs (skipped (classification state row) bs)
run_is_longest state row w n bs a =
    before_longest (stops (classification state row)) (LoopsOn state row) bs (λ i h e. eqb-true _ state (not-false _ (sym (here i h) ∙ e)))
    (λ i h e. here i h ∙ not_eqb _ state e) where
      here : (i : ℕ) → i < length bs → stops (classification state row) (get_or bs i 0) ≡ exits_at state (get_or row (get_or bs i 0) 0)
      here i h = classification-stops state row n (get_or bs i 0) (omega (arith, a i h))

-- where there is a run, the scan answers how far it goes
pub scan_some : (s : Shape) (bs : List ℕ) → (s ≡ none → ⊥) → scan_of s bs ≡ Some (skipped_to (skipped s bs) bs)
unfolding scan_of
scan_some none bs n = absurd (n refl)
scan_some any bs n = refl
scan_some (until es) bs n = refl
scan_some (ranges rs) bs n = refl

-- the same of the calls, by their own contracts: where `classify` answers a run that is not none, the scans by it hand back that front part
pub scan_is_longest : (row : Bor (List ℕ)) (state : ℕ) (x : Got) → ClassifyAnswers row state x → (run : AsciiRun) →
    x ≡ Ok run → (run ≡ runs.None → ⊥) →
    (input : Bor (List ℕ)) → AsciiOnly input.now →
    (part : Bor (List ℕ)) → ScanAnswers run input part →
    (says : Option AsciiRunScan) → ScanLengthAnswers run input says →
    ScansLongest run_tells (LoopsOn state row.now) input part says
scan_is_longest row state x c run r n input a part p says l =
    let w = (ran_row state row.now run (sym r ∙ c.2)).0 in
    let e = ran_shape state row.now run (sym r ∙ c.2) in
    let m = ran_some state row.now run (sym r ∙ c.2) n in
    let s = classification state row.now in
    let b = skipped s input.now in
    record {
      bytes = b;
      longest = run_is_longest state row.now w m input.now a;
      front = rw e at p.2.0;
      itself = p.2.1;
      told = (rw e at l.2) ∙ scan_some s input.now m;
    }
