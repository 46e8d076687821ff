-- When coverage gives each number, and when it counts, of a room and a state: as exactly as encoding is told of. Assumes nothing.
use Rattle.std.specs.Prelude.{ℕ, ◌≤◌, ◌<◌, ◌≡◌, List, [], ◌∷◌, ◌⊎◌, length}
use Rattle.refusal.specs.declared.Refusal.{Refusal}
use Rattle.refusal.specs.Said.{Said, ok, no, no_by, STATE, NOT-TABLE}
use Rattle.law_tables.specs.Table.{Table, words_of, Fields}
use Rattle.law_tables.specs.Rules.{Rules}
use Rattle.law_tables.specs.Fronts.{Exactly}
use Rattle.law_lookups.specs.Looks.{char_target_of}
use Rattle.room_coverage.specs.Coverage.{not_dead, count}
use Rattle.lexer_dfa.specs.Demands.{Leaves}

-- "how many code points from 0 to 1,114,111 are not dead in a given state"
abbrev pub covered_on : Table → ℕ → ℕ
covered_on t s = count (λ x. not_dead (char_target_of t s x)) 1114112

-- d is the room of a table t, whose fields are allowed and which obeys the rules: what decoding leaves for its words
pub record RoomOf (t : Table) (d : List ℕ) : Type 0 where
  pub fields : Fields t
  pub rules : Rules t
  pub leaves : Leaves (words_of t) d

-- what coverage says of a room d and a state
pub record CoveredExactly (d : List ℕ) (state : ℕ) (says : Said) : Type 0 where
  -- the room is left for no words
  pub not_table : (p : ℕ) → Exactly (says ≡ no NOT-TABLE p) ((p ≡ 0) × ((w : List ℕ) → Leaves w d → ⊥))
  -- it is that of a table, which has no such state
  pub no_state : (p : ℕ) → Exactly (says ≡ no STATE p) ((p ≡ 0) × (t : Table) × RoomOf t d × (length t.states ≤ state))
  -- it is that of a table, which has the state: how many points are not dead there is answered
  pub counts : (k : ℕ) → Exactly (says ≡ ok (k ∷ [])) ((t : Table) × RoomOf t d × (state < length t.states) × (k ≡ covered_on t state))
  -- no other number is given, and no item
  pub no_other : (r : Refusal) → says ≡ no_by r → ((r.number ≡ NOT-TABLE) ⊎ (r.number ≡ STATE)) × (r.item ≡ 0)
