-- The words of a record that has flags: as many words as it has flags stand before these. Assumes nothing.
use Rattle.std.specs.Prelude.{ℕ, ◌+◌, List, ◌++◌, take, drop, map}
use Rattle.room_fill.specs.Room.{flag}

-- k words, as many flags, and the rest
unfoldable pub flagged : ℕ → List ℕ → List ℕ
flagged k l = take k l ++ (map flag (take k (drop k l)) ++ drop (k + k) l)
