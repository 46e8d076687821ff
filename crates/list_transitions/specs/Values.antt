-- The value of a record as the code reads it: which transition it says, and when there is one. w is the value's bytes. Assumes nothing.
use Rattle.std.specs.Prelude.{ℕ, ◌≡◌, true, false, List, [], ◌∷◌, length, Option, Some, None}
use Rattle.list_transitions.specs.declared.Value.{Value}
use Rattle.list_transitions.specs.declared.Value.TheVariants.{Atom, Range, Set, NotSet, Wildcard}
use Rattle.list_transitions.specs.Transition.{Transition, atom, range, set, not_set, wildcard}
use Rattle.list_transitions.specs.Intervals.{Span}
use Rattle.list_transitions.specs.Bytes.{pairs_in, shape_of, trans_of}

abbrev pub transition_of : Value → Transition
transition_of (Atom k) = atom k
transition_of (Range a b) = range a b
transition_of (Set s) = set (pairs_in s.now)
transition_of (NotSet s) = not_set (pairs_in s.now)
transition_of Wildcard = wildcard

-- a value was read where the tag has that length, and is what the bytes stand for
pub record Says (tag : ℕ) (w : List ℕ) (v : Value) : Type 0 where
  pub shape : shape_of tag (length w) ≡ true
  pub is : transition_of v ≡ trans_of w tag (length w) 0

abbrev pub IsRead : ℕ → List ℕ → Option Value → Type 0
IsRead tag w (Some v) = Says tag w v
IsRead tag w None = shape_of tag (length w) ≡ false

-- one interval, or none
abbrev pub spans_of : Option (ℕ × ℕ) → List Span
spans_of (Some s) = record { low = s.0; end = s.1 } ∷ []
spans_of None = []
