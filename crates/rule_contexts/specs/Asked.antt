-- What a test that is handed to a walk answers. Assumes nothing.
use Rattle.std.specs.Prelude.{◌≡◌, ℕ, ◌<◌, ◌^◌, Bool}

-- each answer at a place is what `test` says of the place
abbrev pub Tells : (ℕ → Bool → Type 0) → (ℕ → Bool) → Type 0
Tells post test = (at : ℕ) (b : Bool) → at < 2 ^ 64 → post at b → b ≡ test at
