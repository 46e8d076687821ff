-- Demand 3 in a table, by the calls: what `char_target` and `char_continuation` answer in the room of a table in which rows stand. w is a list's bytes, p a
-- point. Assumes nothing.
use Rattle.std.specs.Prelude.{ℕ, ◌<◌, ◌≡◌, true, List, length, get_or}
use contract.Lifetimes.{Lfts}
use Rattle.std.specs.Borrow.{Bor}
use Rattle.refusal.specs.Fixed.{NONE, DEAD-STATE}
use Rattle.look_targets.proofs.char_target.Reads as look_target
use Rattle.look_continuations.proofs.char_continuation.Reads as look_continuation
use Rattle.list_transitions.specs.Transition.{points}
use Rattle.lexer_dfa.specs.Demand3.{list_of, holds_at, OfExactly}
use Rattle.std.specs.Prelude.{Result, Ok}
use Rattle.room_find.specs.declared.Missing.{Missing}

-- t and c were looked up at p: "the target looked up at each code point .. is the one given for exactly the transitions holding that point": one distinct mask
-- is of these, and no other; "the continuation looked up is likewise the one given, and none where the target is dead"
pub record PlacedAs (w targets conts distinct : List ℕ) (p t c : ℕ) : Type 0 where
  pub place : ℕ
  pub within : place < length targets
  pub exactly : OfExactly w distinct p place
  pub alone : (k : ℕ) → k < length targets → OfExactly w distinct p k → k ≡ place
  pub target : t ≡ get_or targets place DEAD-STATE
  pub cont_dead : get_or targets place DEAD-STATE ≡ DEAD-STATE → c ≡ NONE
  pub cont_live : (get_or targets place DEAD-STATE ≡ DEAD-STATE → ⊥) → c ≡ get_or conts place NONE

-- "and dead where none does"
pub record DeadAs (t c : ℕ) : Type 0 where
  pub target : t ≡ DEAD-STATE
  pub cont : c ≡ NONE

-- `char_target` may answer x by its own contract, and so may `char_continuation`
abbrev pub TargetAnswers : (room : Bor (List ℕ)) (state symbol : ℕ) → Result ℕ Missing → Type 0
TargetAnswers room state symbol x = (κs : Lfts 1) × (e : _) × look_target.Learnt κs (room, (state, (symbol, tt))) x e

abbrev pub ContinuationAnswers : (room : Bor (List ℕ)) (state symbol : ℕ) → Result ℕ Missing → Type 0
ContinuationAnswers room state symbol x = (κs : Lfts 1) × (e : _) × look_continuation.Learnt κs (room, (state, (symbol, tt))) x e

-- whatever the two calls answer of a state at p, they answer numbers, t and c, and P holds of these
abbrev pub BothAnswer : (room : Bor (List ℕ)) (state p : ℕ) → (ℕ → ℕ → Type 0) → Type 0
BothAnswer room state p P =
    (x y : Result ℕ Missing) → TargetAnswers room state p x → ContinuationAnswers room state p y → (t : ℕ) × (c : ℕ) × (x ≡ Ok t) × (y ≡ Ok c) × P t c

-- "the target looked up at each code point from 0 to 1,114,111", and the continuation, by the calls and in a room
pub record LookedUp (w targets conts distinct : List ℕ) (room : Bor (List ℕ)) (state : ℕ) : Type 0 where
  pub held : (p : ℕ) → p < points → (i : ℕ) → i < length (list_of w) → holds_at w i p ≡ true → BothAnswer room state p (PlacedAs w targets conts distinct p)
  pub unheld : (p : ℕ) → p < points → ((i : ℕ) → i < length (list_of w) → holds_at w i p ≡ true → ⊥) → BothAnswer room state p DeadAs
