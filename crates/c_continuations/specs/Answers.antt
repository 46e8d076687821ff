-- The answer about a continuation in C: a number of 0 and the values, or the refusal's number. Assumes nothing.
use Rattle.std.specs.Prelude.{ℕ, [], ◌∷◌, get_or}
use Rattle.refusal.specs.Said.{Said, ok, no_by}
use Rattle.c_continuations.specs.declared.CContinuation.{CContinuation}

abbrev pub no_continuation : ℕ → CContinuation
no_continuation n = record { number = n; found = 0; contexts = 0; configs = 0 }

-- no value: no such record; else how many contexts and configs there are
abbrev pub continuation_in_c : Said → CContinuation
continuation_in_c (ok []) = no_continuation 0
continuation_in_c (ok (contexts ∷ l)) = record { number = 0; found = 1; contexts = contexts; configs = get_or l 0 0 }
continuation_in_c (no_by r) = no_continuation r.number
