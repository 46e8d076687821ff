-- No two answers of the calls on runs say one thing: what is said of an answer gives it back. Assumes nothing.
use Prim.Native.Nat.{ℕ}
use mathlib.Core.Path.{◌≡◌, refl, sym, ap, ◌∙◌}
use mathlib.Core.List.{List, [], ◌∷◌}
use lib.Dec.{eqb}
use lib.ListN.{get_or}
use Rattle.std.specs.Prelude.{Option, Some, None, Result, Ok, Err}
use Rattle.refusal.specs.declared.Refusal.{Refusal}
use Rattle.refusal.specs.Said.{Said, ok, no_by}
use Rattle.refusal.specs.Lists.{pick}
use Rattle.refusal.proofs.Flags.{flag-back}
use Rattle.run_ranges.specs.declared.AsciiRanges.{AsciiRanges}
use Rattle.run_ranges.specs.Ranges.{no_ranges}
use Rattle.run_class.specs.declared.AsciiRangeClass.{AsciiRangeClass}
use Rattle.run_class.specs.declared.AsciiRangeClass.TheVariants as ranges
use Rattle.run_class.specs.Class as classes
use Rattle.run_shape.specs.declared.AsciiRun.{AsciiRun}
use Rattle.run_shape.specs.declared.AsciiRun.TheVariants as runs
use Rattle.run_shape.specs.declared.AsciiRunScan.{AsciiRunScan}
use Rattle.run_shape.specs.Shape.{Got, got_said}
use Rattle.run_shape.specs.Scan.{said, result_said}

-- The class of ranges

abbrev class_back : Said → Result AsciiRangeClass Refusal
class_back (ok l) = Ok (get_or (ranges.Whitespace ∷ ranges.Number ∷ ranges.Identifier ∷ []) (get_or l 0 0) ranges.Other)
class_back (no_by r) = Err r

class-said : (x : Result AsciiRangeClass Refusal) → class_back (classes.said x) ≡ x
class-said (Ok ranges.Whitespace) = refl
class-said (Ok ranges.Number) = refl
class-said (Ok ranges.Identifier) = refl
class-said (Ok ranges.Other) = refl
class-said (Err r) = refl

pub class_said_one : (x y : Result AsciiRangeClass Refusal) → classes.said x ≡ classes.said y → x ≡ y
class_said_one x y e = sym (class-said x) ∙ ap class_back e ∙ class-said y

-- A run: its ranges are not said, and stand beside

abbrev pub ranges_beside : Got → AsciiRanges
ranges_beside (Ok runs.None) = no_ranges
ranges_beside (Ok runs.Any) = no_ranges
ranges_beside (Ok (runs.Until1 a)) = no_ranges
ranges_beside (Ok (runs.Until2 a b)) = no_ranges
ranges_beside (Ok (runs.Until3 a b c)) = no_ranges
ranges_beside (Ok (runs.Ranges q)) = q
ranges_beside (Err r) = no_ranges

abbrev kind_back : List ℕ → AsciiRanges → AsciiRun
kind_back l q =
    pick (eqb (get_or l 0 0) 0) runs.None
    (pick (eqb (get_or l 0 0) 1) runs.Any
    (pick (eqb (get_or l 0 0) 2) (runs.Until1 (get_or l 1 0))
    (pick (eqb (get_or l 0 0) 3) (runs.Until2 (get_or l 1 0) (get_or l 2 0))
    (pick (eqb (get_or l 0 0) 4) (runs.Until3 (get_or l 1 0) (get_or l 2 0) (get_or l 3 0)) (runs.Ranges q)))))

abbrev run_back : Said → AsciiRanges → Got
run_back (ok l) q = Ok (kind_back l q)
run_back (no_by r) q = Err r

run-said : (x : Got) → run_back (got_said x) (ranges_beside x) ≡ x
run-said (Ok runs.None) = refl
run-said (Ok runs.Any) = refl
run-said (Ok (runs.Until1 a)) = refl
run-said (Ok (runs.Until2 a b)) = refl
run-said (Ok (runs.Until3 a b c)) = refl
run-said (Ok (runs.Ranges q)) = refl
run-said (Err r) = refl

pub run_said_one : (x y : Got) → got_said x ≡ got_said y → ranges_beside x ≡ ranges_beside y → x ≡ y
run_said_one x y e f = let same : run_back (got_said x) (ranges_beside x) ≡ run_back (got_said y) (ranges_beside y) = rw (e, f) in sym (run-said x) ∙ same ∙ run-said y

-- .. and what is said of it alone tells all but them

abbrev pub but_ranges : Got → Got
but_ranges (Ok runs.None) = Ok runs.None
but_ranges (Ok runs.Any) = Ok runs.Any
but_ranges (Ok (runs.Until1 a)) = Ok (runs.Until1 a)
but_ranges (Ok (runs.Until2 a b)) = Ok (runs.Until2 a b)
but_ranges (Ok (runs.Until3 a b c)) = Ok (runs.Until3 a b c)
but_ranges (Ok (runs.Ranges q)) = Ok (runs.Ranges no_ranges)
but_ranges (Err r) = Err r

but-ranges-said : (x : Got) → run_back (got_said x) no_ranges ≡ but_ranges x
but-ranges-said (Ok runs.None) = refl
but-ranges-said (Ok runs.Any) = refl
but-ranges-said (Ok (runs.Until1 a)) = refl
but-ranges-said (Ok (runs.Until2 a b)) = refl
but-ranges-said (Ok (runs.Until3 a b c)) = refl
but-ranges-said (Ok (runs.Ranges q)) = refl
but-ranges-said (Err r) = refl

pub kind_said_one : (x y : Got) → got_said x ≡ got_said y → but_ranges x ≡ but_ranges y
kind_said_one x y e = sym (but-ranges-said x) ∙ ap (λ (s : Said). run_back s no_ranges) e ∙ but-ranges-said y

-- The scan by a state's run

abbrev scan_back : List ℕ → Option AsciiRunScan
scan_back [] = None
scan_back (n ∷ l) = Some (record { bytes = n; found_exit = eqb (get_or l 0 0) 1 })

abbrev skip_back : Said → Option AsciiRunScan
skip_back (ok l) = scan_back l
skip_back (no_by r) = None

skip-said : (x : Option AsciiRunScan) → skip_back (said x) ≡ x
skip-said None = refl
skip-said (Some s) = rw (flag-back s.found_exit)

pub scanned_one : (x y : Option AsciiRunScan) → said x ≡ said y → x ≡ y
scanned_one x y e = sym (skip-said x) ∙ ap skip_back e ∙ skip-said y

abbrev result_back : Said → Result (Option AsciiRunScan) Refusal
result_back (ok l) = Ok (scan_back l)
result_back (no_by r) = Err r

result-said : (x : Result (Option AsciiRunScan) Refusal) → result_back (result_said x) ≡ x
result-said (Ok None) = refl
result-said (Ok (Some s)) = rw (flag-back s.found_exit)
result-said (Err r) = refl

pub result_said_one : (x y : Result (Option AsciiRunScan) Refusal) → result_said x ≡ result_said y → x ≡ y
result_said_one x y e = sym (result-said x) ∙ ap result_back e ∙ result-said y
