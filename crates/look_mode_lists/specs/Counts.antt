-- How many states each compiled mode has (document 01, "Lookups"). w is the room, l the starts of its modes, c its state count, n how many
-- numbers the lent buffer has. Assumes nothing.
use Rattle.std.specs.Prelude.{ℕ, suc, ◌-◌, List, [], ◌∷◌, ◌++◌, ltb, leb, length, get_or, Option, Some, None}
use Rattle.refusal.specs.Said.{Said, ok, no_by, ROOM, NOT-TABLE, ORDER}
use Rattle.refusal.specs.Lists.{pick}
use Rattle.look_modes.specs.Start.{compiled}
use Rattle.look_modes.specs.Modes.{state_count, modes_up_to, of_modes}
use Rattle.look_mode_lists.specs.Written.{Wrote, wrote, refused}

-- "Mode flags and counts need one number for each answer; order 9, 7, 10."

-- the starts of the compiled modes
unfoldable pub compiled_of : List ℕ → List ℕ
compiled_of [] = []
compiled_of (x ∷ l) = pick (compiled x) (x ∷ compiled_of l) (compiled_of l)

-- "neighbours subtracted": each from the one behind it
unfoldable pub differences : List ℕ → List ℕ
differences [] = []
differences (x ∷ []) = []
differences (x ∷ y ∷ l) = (y - x) ∷ differences (y ∷ l)

-- "starts of compiled modes plus the state count, neighbours subtracted"
abbrev pub counts_of : ℕ → List ℕ → List ℕ
counts_of c l = differences (compiled_of l ++ (c ∷ []))

-- the last start of a compiled mode, once x is read
abbrev pub later : ℕ → ℕ → ℕ
later last x = pick (compiled x) x last

-- "ORDER names the first compiled mode whose start is below the compiled mode's before it": its number among all modes, or, where there is
-- none, how many modes there are. `last` is the start of the compiled mode before; a mode without a start holds NONE, which is below no start
unfoldable pub descent : ℕ → List ℕ → ℕ
descent last [] = 0
descent last (x ∷ l) = pick (ltb x last) 0 (suc (descent (later last x) l))

-- its number, if there is one
unfoldable pub first_descent : List ℕ → Option ℕ
first_descent l = pick (ltb (descent 0 l) (length l)) (Some (descent 0 l)) None

unfoldable pub counts_for : ℕ → ℕ → List ℕ → Wrote
counts_for n c l =
    pick (ltb n (length (compiled_of l))) (refused ROOM 0) (pick (ltb (descent 0 l) (length l)) (refused ORDER (descent 0 l)) (wrote (counts_of c l)))

-- "a start past the state count is NOT-TABLE", and one past 65535 too
abbrev pub limit_of : ℕ → ℕ
limit_of c = pick (leb c 65535) c 65535

unfoldable pub counts_with : List ℕ → ℕ → ℕ → Wrote
counts_with w n c = of_modes w (modes_up_to w (limit_of c)) (counts_for n c) (refused NOT-TABLE 0)

-- go on with the number that an answer says
unfoldable pub asked : Said → (ℕ → Wrote) → Wrote
asked (ok l) f = f (get_or l 0 0)
asked (no_by r) f = refused r.number r.place

abbrev pub mode_state_counts : List ℕ → ℕ → Wrote
mode_state_counts w n = asked (state_count w) (counts_with w n)

-- One mode at a time

-- what is written of a compiled mode that starts at `last`, once the start behind it is known
abbrev pub gap : ℕ → ℕ → List ℕ
gap last next = pick (compiled last) ((next - last) ∷ []) []

abbrev pub step : ℕ → ℕ → List ℕ
step last x = pick (compiled x) (gap last x) []
