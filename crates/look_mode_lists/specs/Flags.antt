-- The flags of the modes (document 01, "Lookups"). w is the room, l the starts of its modes, n how many numbers the lent buffer has.
-- Assumes nothing.
use Rattle.std.specs.Prelude.{ℕ, List, map, ltb, length}
use Rattle.refusal.specs.Said.{ROOM, NOT-TABLE}
use Rattle.refusal.specs.Lists.{pick}
use Rattle.look_modes.specs.Start.{compiled}
use Rattle.look_modes.specs.Modes.{modes_up_to, of_modes}
use Rattle.look_mode_lists.specs.Written.{Wrote, wrote, refused}

-- "Mode flags and counts need one number for each answer; order 9, 7, 10."

-- a mode's flag: 1 where it is compiled, else 0
abbrev pub flag : ℕ → ℕ
flag x = pick (compiled x) 1 0

abbrev pub flags_for : ℕ → List ℕ → Wrote
flags_for n l = pick (ltb n (length l)) (refused ROOM 0) (wrote (map flag l))

abbrev pub mode_flags : List ℕ → ℕ → Wrote
mode_flags w n = of_modes w (modes_up_to w 65535) (flags_for n) (refused NOT-TABLE 0)
