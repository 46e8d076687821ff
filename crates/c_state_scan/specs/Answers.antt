-- The answer of the scan by a state's run, in C: a number of 0 and the values, or the refusal's number. Assumes nothing.
use Rattle.std.specs.Prelude.{ℕ, ◌+◌, [], ◌∷◌, get_or}
use Rattle.refusal.specs.Said.{Said, ok, no_by}
use Rattle.c_state_scan.specs.declared.CStateScan.{CStateScan}

abbrev pub no_scan : ℕ → CStateScan
no_scan n = record { bytes = 0; number = n; stop = 0 }

-- no value: no run; else the length, and 1 where the input ended or 2 where an exit was found
abbrev pub state_scan_in_c : Said → CStateScan
state_scan_in_c (ok []) = no_scan 0
state_scan_in_c (ok (n ∷ l)) = record { bytes = n; number = 0; stop = get_or l 0 0 + 1 }
state_scan_in_c (no_by r) = no_scan r.number
