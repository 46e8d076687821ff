-- The answer about an accept in C: a number of 0 and the values, or the refusal's number. Assumes nothing.
use Rattle.std.specs.Prelude.{ℕ, [], ◌∷◌, get_or}
use Rattle.refusal.specs.Said.{Said, ok, no_by}
use Rattle.c_accepts.specs.declared.CAccept.{CAccept}

abbrev pub no_accept : ℕ → CAccept
no_accept n = record { number = n; found = 0; rule = 0; consumed_eof = 0; actions = 0 }

-- no value: no such record; else the rule, the flag and how many actions there are
abbrev pub accept_in_c : Said → CAccept
accept_in_c (ok []) = no_accept 0
accept_in_c (ok (rule ∷ l)) = record { number = 0; found = 1; rule = rule; consumed_eof = get_or l 0 0; actions = get_or l 1 0 }
accept_in_c (no_by r) = no_accept r.number
