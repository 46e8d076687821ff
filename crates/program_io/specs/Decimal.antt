-- A number in decimal. Assumes nothing.
use Rattle.std.specs.Prelude.{ℕ, zero, suc, ◌+◌, ◌/◌, ◌%◌, List, [], ◌∷◌, ◌++◌, ltb}
use Rattle.refusal.specs.Lists.{pick}

-- a number of at most k digits: it is a digit, or the digits of its tenth stand before its last
unfoldable pub decimal : ℕ → ℕ → List ℕ
decimal zero n = []
decimal (suc k) n = pick (ltb n 10) ((48 + n) ∷ []) (decimal k (n / 10) ++ ((48 + n % 10) ∷ []))

-- one of 64 bits, which has at most 20
abbrev pub number : ℕ → List ℕ
number n = decimal 20 n
