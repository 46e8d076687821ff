-- The answer of the scan by a run in C: a number of 0 and the values, or the refusal. Assumes nothing.
use Rattle.std.specs.Prelude.{ℕ, List, [], ◌∷◌, get_or}
use Rattle.refusal.specs.Said.{Said, ok, no_by}
use Rattle.run_shape.specs.Words.{read_alone}
use Rattle.run_shape.specs.Scan.{scanned_by}
use Rattle.c_scan.specs.declared.CScan.{CScan}

-- no value: no run; else the length and the exit flag
abbrev pub scan_in_c : Said → CScan
scan_in_c (ok []) = record { number = 0; item = 0; place = 0; ran = 0; bytes = 0; found_exit = 0 }
scan_in_c (ok (n ∷ l)) = record { number = 0; item = 0; place = 0; ran = 1; bytes = n; found_exit = get_or l 0 0 }
scan_in_c (no_by r) = record { number = r.number; item = r.item; place = r.place; ran = 0; bytes = 0; found_exit = 0 }

-- the scan by the run whose words these are; anything but one run's words is FIELD
abbrev pub scan_call : List ℕ → List ℕ → Said
scan_call w bs = scanned_by (read_alone w) bs
