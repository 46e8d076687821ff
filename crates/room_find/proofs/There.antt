-- When what a lookup follows is there: for whoever knows how the room was filled. Assumes nothing.
use Prim.Native.Nat.{ℕ, ◌+◌, ◌*◌, ◌<◌, ◌≤◌}
use mathlib.Core.Path.{◌≡◌}
use mathlib.Core.List.{List}
use lib.ListN.{length, get_or}
use borrow.Author.Tests.{le-leb, lt-ltb, le-ltb}
use Rattle.std.specs.Prelude.{Ok, Err}
use Rattle.room_find.specs.declared.Missing.TheVariants.{Absent}
use Rattle.room_find.specs.Room.{record_in, listed_in, state_at}

-- a record of a section that lies in the room
module _ (w : List ℕ) (s e : ℕ) (h : s < e) (k : e ≤ length w) (i : ℕ) where
  pub record_there : (size : ℕ) → i < get_or w s 0 → i * size + s + size < e → record_in w s e size i ≡ Ok (i * size + s + 1)
  unfolding record_in
  record_there size c l = simp (lt-ltb _ _ h, le-leb _ _ k, lt-ltb _ _ c, lt-ltb _ _ l)

  pub record_absent : (size : ℕ) → get_or w s 0 ≤ i → record_in w s e size i ≡ Err Absent
  unfolding record_in
  record_absent size c = simp (lt-ltb _ _ h, le-leb _ _ k, le-ltb _ _ c)

  pub listed-there : (list : ℕ) → i < get_or w s 0 → list + i < length w → s < get_or w (list + i) 0 → get_or w (list + i) 0 < e
      → listed_in w s e i list ≡ Ok (get_or w (list + i) 0)
  unfolding listed_in
  listed-there list c l a b = simp (lt-ltb _ _ h, le-leb _ _ k, lt-ltb _ _ c, lt-ltb _ _ l, lt-ltb _ _ a, lt-ltb _ _ b)

  pub listed-absent : (list : ℕ) → get_or w s 0 ≤ i → listed_in w s e i list ≡ Err Absent
  unfolding listed_in
  listed-absent list c = simp (lt-ltb _ _ h, le-leb _ _ k, le-ltb _ _ c)

-- a state, behind a header
module _ (w : List ℕ) (n : 8 < length w) (h : get_or w 2 0 < get_or w 3 0) (k : get_or w 3 0 ≤ length w) (i : ℕ) where
  pub state_there : i < get_or w (get_or w 2 0) 0 → i * 4 + get_or w 2 0 + 4 < get_or w 3 0 → state_at w i ≡ Ok (i * 4 + get_or w 2 0 + 1)
  unfolding state_at
  state_there c l = simp (lt-ltb _ _ n, record_there w (get_or w 2 0) (get_or w 3 0) h k i 4 c l)

  pub state_absent : get_or w (get_or w 2 0) 0 ≤ i → state_at w i ≡ Err Absent
  unfolding state_at
  state_absent c = simp (lt-ltb _ _ n, record_absent w (get_or w 2 0) (get_or w 3 0) h k i 4 c)
