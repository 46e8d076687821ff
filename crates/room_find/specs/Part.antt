-- A part of the room that is handed back: the room itself from a place on, and no copy. Assumes nothing.
use Rattle.std.specs.Prelude.{ℕ, ◌+◌, ◌*◌, ◌≡◌, List, take, drop}
use Rattle.std.specs.Borrow.{Bor}

-- n numbers of the room, from a place on; a number has four bytes
pub record PartOf (room : Bor (List ℕ)) (from n : ℕ) (part : Bor (List ℕ)) : Type 0 where
  pub numbers : part.now ≡ take n (drop from room.now)
  pub itself : part.ref_ptr ≡ (room.ref_ptr.0, from * 4 + room.ref_ptr.1)
