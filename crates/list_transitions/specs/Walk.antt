-- The records of a list that was accepted, one behind the other, for the calls that walk them again. w is the list's bytes. Assumes nothing.
use Rattle.std.specs.Prelude.{ℕ, zero, suc, ◌+◌, ◌≤◌, ◌≡◌, true, List, [], ◌∷◌, length, get_or}
use Rattle.list_transitions.specs.Transition.{Transition, in_order}
use Rattle.list_transitions.specs.Bytes.{size_at, shape_of, trans_of}

-- the transition of the record at `at`, and where the next record starts
abbrev pub trans_at : List ℕ → ℕ → Transition
trans_at w at = trans_of w (get_or w at 0) (size_at w (at + 1)) (at + 3)

abbrev pub next_at : List ℕ → ℕ → ℕ
next_at w at = at + 3 + size_at w (at + 1)

-- the transitions of n records from `at`
unfoldable pub trans_from : List ℕ → ℕ → ℕ → List Transition
trans_from w zero at = []
trans_from w (suc n) at = trans_at w at ∷ trans_from w n (next_at w at)

-- n records stand from `at` on, whole, each of its tag's length and in order
unfoldable pub Fit : List ℕ → ℕ → ℕ → Type 0
Fit w zero at = Unit {0}
Fit w (suc n) at =
    (next_at w at ≤ length w) × (shape_of (get_or w at 0) (size_at w (at + 1)) ≡ true) × (in_order (trans_at w at) ≡ true) × Fit w n (next_at w at)
