-- What a test of a range's third number answers, and a range that passes it. Assumes nothing.
use Rattle.std.specs.Prelude.{◌≡◌, ℕ, ◌+◌, ◌<◌, ◌^◌, List, Bool, ◌&&◌, get_or}
use Rattle.rule_words.specs.Rules.{follows}

-- each answer on a word is what `test` says of it
abbrev pub Tells : (ℕ → Bool → Type 0) → (ℕ → Bool) → Type 0
Tells post test = (x : ℕ) (b : Bool) → x < 2 ^ 32 → post x b → b ≡ test x

-- a range that starts at `from` or later, in order, with a third number that passes
abbrev pub range_good : (ℕ → Bool) → List ℕ → ℕ → ℕ → Bool
range_good test w from at = follows w from at && test (get_or w (at + 2) 0)
