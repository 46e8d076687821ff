-- What row building asks of one segment or of one call. One definition for both kinds of row, e says which: an escape row, or one of targets. Assumes
-- nothing.
use Rattle.std.specs.Prelude.{ℕ, Bool, true, false, ◌&&◌, Option, Some, None, List, eqb, get_or}
use Rattle.refusal.specs.Said.{ROOM, TARGETS}
use Rattle.refusal.specs.Lists.{pick}
use Rattle.refusal.specs.Fixed.{NONE, DEAD-STATE}

-- the target that a place was given; behind the last place nothing was given
abbrev pub target_at : List ℕ → ℕ → ℕ
target_at targets k = get_or targets k DEAD-STATE

-- .. or, for an escape row, the continuation, and none where the target is dead
abbrev pub goal_of : Bool → List ℕ → List ℕ → ℕ → ℕ
goal_of e targets conts k = pick e (pick (eqb (target_at targets k) DEAD-STATE) NONE (get_or conts k NONE)) (target_at targets k)

-- "targets or continuations differ in number from distinct masks": d is how many distinct masks there are
abbrev pub differs : ℕ → ℕ → ℕ → Bool
differs d targets conts = pick (eqb targets d && eqb conts d) false true

-- "TARGETS, ROOM for these": the refusal's number, if there is one
abbrev pub refusal_of : Bool → Bool → Option ℕ
refusal_of other short = pick other (Some TARGETS) (pick short (Some ROOM) None)
