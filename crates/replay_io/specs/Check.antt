-- The check over numbers: the sum of the sums after each, in 64 bits. Assumes nothing.
use Rattle.std.specs.Prelude.{ℕ, ◌+◌, ◌%◌, ◌^◌, List, fold}
use Rattle.replay_io.specs.declared.check.Sums.{Sums}

abbrev pub none : Sums
none = record { sum = 0; sums = 0 }

-- one number more
abbrev pub with : Sums → ℕ → Sums
with before x = record { sum = (before.sum + x) % 2 ^ 64; sums = (before.sums + (before.sum + x) % 2 ^ 64) % 2 ^ 64 }

-- of numbers of a type, by the value of each
abbrev pub summed_by : {A : Type 0} → (A → ℕ) → Sums → List A → Sums
summed_by value before xs = fold (λ sums x. with sums (value x)) before xs

abbrev pub summed : Sums → List ℕ → Sums
summed before xs = summed_by (λ x. x) before xs
