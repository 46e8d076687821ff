-- The scan by a run (document 01, "Scanning"). Assumes nothing.
use Rattle.std.specs.Prelude.{ℕ, Bool, true, false, Option, Some, None, Result, Ok, Err, List, [], ◌∷◌, eqb, ltb, length}
use Rattle.refusal.specs.declared.Refusal.{Refusal}
use Rattle.refusal.specs.Said.{Said, ok, no_by}
use Rattle.refusal.specs.Lists.{pick, some, before}
use Rattle.run_ranges.specs.Ranges.{outside}
use Rattle.run_shape.specs.declared.AsciiRunScan.{AsciiRunScan}
use Rattle.run_shape.specs.Shape.{Shape, none, any, until, ranges, shape, Got}

-- "until-runs stop only at their exit bytes"; ranges stop outside; "any takes all"; none takes nothing
unfoldable pub stops : Shape → ℕ → Bool
stops none b = true
stops any b = false
stops (until es) b = some (eqb b) es
stops (ranges rs) b = outside rs b

-- "pass bytes of 128 and above; ranges stop there": so it is, at each such byte, with every run whose words are read (`read_high`) and with that of every
-- row (`classification_high`)
abbrev pub stops_high : Shape → Bool
stops_high none = true
stops_high any = false
stops_high (until es) = false
stops_high (ranges rs) = true

-- how many bytes a run skips
abbrev pub skipped : Shape → List ℕ → ℕ
skipped s bs = before (stops s) bs

abbrev pub bit : Bool → ℕ
bit b = pick b 1 0

-- n bytes are skipped; an exit is found where bytes are left
abbrev pub skipped_to : ℕ → List ℕ → AsciiRunScan
skipped_to n bs = record { bytes = n; found_exit = ltb n (length bs) }

-- none answers "no run"; else the length, and whether an exit was found
unfoldable pub scan_of : Shape → List ℕ → Option AsciiRunScan
scan_of none bs = None
scan_of any bs = Some (skipped_to (skipped any bs) bs)
scan_of (until es) bs = Some (skipped_to (skipped (until es) bs) bs)
scan_of (ranges rs) bs = Some (skipped_to (skipped (ranges rs) bs) bs)

-- the scan by the run that a call gave, or the refusal that it gave
abbrev pub scan_by : Got → List ℕ → Result (Option AsciiRunScan) Refusal
scan_by (Ok r) bs = Ok (scan_of (shape r) bs)
scan_by (Err r) bs = Err r

-- What the answers say: no value for no run; else the length, and 1 where an exit was found.

abbrev pub said : Option AsciiRunScan → Said
said None = ok []
said (Some s) = ok (s.bytes ∷ bit s.found_exit ∷ [])

abbrev pub skipped_said : ℕ → List ℕ → Said
skipped_said n bs = said (Some (skipped_to n bs))

abbrev pub scan_said : Shape → List ℕ → Said
scan_said s bs = said (scan_of s bs)

abbrev pub result_said : Result (Option AsciiRunScan) Refusal → Said
result_said (Ok s) = said s
result_said (Err r) = no_by r

abbrev pub scanned_by : Got → List ℕ → Said
scanned_by g bs = result_said (scan_by g bs)
