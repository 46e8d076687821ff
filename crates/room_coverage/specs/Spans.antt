-- The code points of a wide row, counted by its ranges: a range may lie below 128 or above 1,114,111, and is counted only where it reaches
-- into what lies between. w is the room. Assumes nothing.
use Rattle.std.specs.Prelude.{ℕ, zero, suc, ◌+◌, ◌-◌, ◌*◌, List, ltb, eqb, length, get_or}
use Rattle.refusal.specs.Lists.{pick}
use Rattle.refusal.specs.Fixed.{DEAD-STATE}
use Rattle.room_find.specs.Room.{follow}
use Rattle.look_targets.specs.Targets.{wide_row_at}

-- how many of the points 128 to 1,114,111 lie below x
unfoldable pub below : ℕ → ℕ
below x = pick (ltb x 128) 0 (pick (ltb x 1114112) (x - 128) 1113984)

-- how many of them a range holds, where its target is not dead
unfoldable pub span : ℕ → ℕ → ℕ → ℕ
span low high target = pick (eqb target DEAD-STATE) 0 (below (high + 1) - below low)

-- and n ranges from `at`, each low, high and target
unfoldable pub spans : List ℕ → ℕ → ℕ → ℕ
spans w zero at = 0
spans w (suc n) at = span (get_or w at 0) (get_or w (at + 1) 0) (get_or w (at + 2) 0) + spans w n (at + 3)

-- a row of n ranges whose length stands at p; none where it does not lie in the room
abbrev pub row_spans : List ℕ → ℕ → ℕ → ℕ
row_spans w p n = pick (ltb (n * 3 + p) (length w)) (spans w n (p + 1)) 0

-- a row by its number; none where there is no such row
unfoldable pub wide_spans : List ℕ → ℕ → ℕ
wide_spans w row = follow (wide_row_at w row) (λ p. row_spans w p (get_or w p 0)) 0 0
