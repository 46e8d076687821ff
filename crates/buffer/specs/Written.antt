-- What a call says that writes into a lent buffer: how many numbers it wrote, or why none. Assumes nothing.
use Rattle.std.specs.Prelude.{ℕ, [], ◌∷◌, Result, Ok, Err}
use Rattle.refusal.specs.declared.Refusal.{Refusal}
use Rattle.refusal.specs.Said.{Said, ok, refusal_at, no_by}

-- how many numbers were written, or a refusal
abbrev pub said : Result ℕ Refusal → Said
said (Ok n) = ok (n ∷ [])
said (Err r) = no_by r

abbrev pub refused : ℕ → ℕ → Result ℕ Refusal
refused n p = Err (refusal_at n p)
