-- All modes of a room, and how many states it has (document 01, "Lookups"). w is the room, s and e are where a section starts and ends.
-- Assumes nothing.
use Rattle.std.specs.Prelude.{ℕ, zero, suc, ◌+◌, Bool, ◌||◌, List, [], ◌∷◌, ltb, leb, eqb, get_or, Result, Ok, Err}
use Rattle.refusal.specs.Said.{Said, ok, no, NOT-TABLE}
use Rattle.refusal.specs.Fixed.{NONE}
use Rattle.refusal.specs.Lists.{pick, some, every}
use Rattle.refusal.specs.Header.{MODES-START, STATES-START, RUNS-START}
use Rattle.room_find.specs.declared.Missing.{Missing}
use Rattle.room_find.specs.declared.Missing.TheVariants.{Outside}
use Rattle.room_find.specs.declared.Span.{Span}
use Rattle.room_find.specs.Answer.{refused}
use Rattle.room_find.specs.Room.{spanned, headed}
use Rattle.look_modes.specs.Start.{compiled}

-- how many states there are: the count is only answered, so that the states need not be there
abbrev pub count_in : List ℕ → ℕ → ℕ → Said
count_in w s e = spanned w s e (ok (get_or w s 0 ∷ [])) (no NOT-TABLE 0)

unfoldable pub state_count : List ℕ → Said
state_count w = headed w (count_in w (get_or w STATES-START 0) (get_or w RUNS-START 0)) (no NOT-TABLE 0)

-- n numbers of the room, from a place on
unfoldable pub numbers : List ℕ → ℕ → ℕ → List ℕ
numbers w zero at = []
numbers w (suc n) at = get_or w at 0 ∷ numbers w n (at + 1)

-- a start that is at most a limit, or NONE
abbrev pub up_to : ℕ → ℕ → Bool
up_to limit x = leb x limit || eqb x NONE

-- where the starts of the modes stand, and how many there are; or a refusal
abbrev pub modes_said : Result Span Missing → Said
modes_said (Ok s) = ok (s.from ∷ s.length ∷ [])
modes_said (Err m) = refused m

-- n modes behind their count at s: all of them lie in their section, and no start is past the limit
abbrev pub modes_with : List ℕ → ℕ → ℕ → ℕ → ℕ → Result Span Missing
modes_with w s e n limit = pick (ltb (n + s) e) (pick (every (up_to limit) (numbers w n (s + 1))) (Ok (record { from = s + 1; length = n })) (Err Outside)) (Err Outside)

abbrev pub modes_in : List ℕ → ℕ → ℕ → ℕ → Result Span Missing
modes_in w s e limit = spanned w s e (modes_with w s e (get_or w s 0) limit) (Err Outside)

unfoldable pub modes_up_to : List ℕ → ℕ → Result Span Missing
modes_up_to w limit = headed w (modes_in w (get_or w MODES-START 0) (get_or w STATES-START 0) limit) (Err Outside)

-- go on with the starts of the modes
unfoldable pub of_modes : {A : Type 0} → List ℕ → Result Span Missing → (List ℕ → A) → A → A
of_modes w (Ok s) f outside = f (numbers w s.length s.from)
of_modes w (Err m) f outside = outside

-- that some mode is compiled, or that none is; or a refusal
abbrev pub compiled_said : Result Bool Missing → Said
compiled_said (Ok b) = ok (pick b 1 0 ∷ [])
compiled_said (Err m) = refused m

abbrev pub has_compiled_modes : List ℕ → Said
has_compiled_modes w = of_modes w (modes_up_to w 65535) (λ l. ok (pick (some compiled l) 1 0 ∷ [])) (no NOT-TABLE 0)
