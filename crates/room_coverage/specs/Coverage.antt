-- Coverage (document 01, "Lookups"): "how many code points from 0 to 1,114,111 are not dead in a given state". d is the room, s a state.
-- Assumes nothing.
use Rattle.std.specs.Prelude.{ℕ, zero, suc, ◌+◌, Bool, false, not, List, [], ◌∷◌, eqb, get_or}
use Rattle.refusal.specs.Said.{Said, ok, no_by, no, NOT-TABLE}
use Rattle.refusal.specs.Lists.{pick}
use Rattle.refusal.specs.Fixed.{DEAD-STATE}
use Rattle.room_find.specs.Room.{of_state}
use Rattle.room_judge.specs.Judge.{is_table}
use Rattle.look_targets.specs.Targets.{char_target}

-- a target other than the dead state; the escape state is not dead
abbrev pub lives : ℕ → Bool
lives target = not (eqb target DEAD-STATE)

abbrev pub not_dead : Said → Bool
not_dead (ok l) = lives (get_or l 0 DEAD-STATE)
not_dead (no_by r) = false

-- the state goes on at a code point
abbrev pub goes_on : List ℕ → ℕ → ℕ → Bool
goes_on d s x = not_dead (char_target d s x)

-- how many of the numbers below n pass a test
unfoldable pub count : (ℕ → Bool) → ℕ → ℕ
count f zero = 0
count f (suc n) = pick (f n) 1 0 + count f n

-- "code points from 0 to 1,114,111", each of them asked
unfoldable pub covered : List ℕ → ℕ → ℕ
covered d s = count (goes_on d s) 1114112

-- "Encoding and coverage give NOT-TABLE exactly when the room isn't what decoding leaves for some accepted words"; then STATE
unfoldable pub coverage_of : List ℕ → ℕ → Said
coverage_of d s = pick (is_table d) (of_state d s (λ p. ok (covered d s ∷ []))) (no NOT-TABLE 0)
