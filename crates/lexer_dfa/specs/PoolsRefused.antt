-- When a row is interned, and when it is refused (document 01, "Transitions, segments, rows"): demand 1, "one numbered refusal, given on the stated condition
-- and never otherwise"; "a row pool stays as it stood". w is the pool, n how many rows are stated to stand there, row the one to intern. Assumes nothing.
use Rattle.std.specs.Prelude.{ℕ, ◌+◌, ◌*◌, ◌/◌, ◌≤◌, ◌<◌, ◌≡◌, List, [], ◌∷◌, ◌++◌, ◌⊎◌, length, get_or, drop}
use contract.Lifetimes.{Lfts}
use Rattle.std.specs.Borrow.{Bor, MutBor}
use Rattle.refusal.specs.declared.Refusal.{Refusal}
use Rattle.refusal.specs.Said.{Said, ok, no, no_by, FIELD, ROOM, NOT-TABLE}
use Rattle.refusal.specs.Lists.{each}
use Rattle.refusal.specs.Fixed.{NONE}
use Rattle.law_tables.specs.Table.{All, RangeFields}
use Rattle.law_tables.specs.Fronts.{Exactly}
use Rattle.law_rows.specs.Row.{Row, numbers}
use Rattle.pool_rows.specs.Pools.{Kind, ascii, wide, standing}
use Rattle.pool_ascii.proofs.intern_ascii.Reads as intern-ascii
use Rattle.pool_wide.proofs.intern_wide.Reads as intern-wide
use Rattle.std.specs.Prelude.{Result}

-- what stands for a row: 128 targets, or "its count, then its ranges"
abbrev pub OfKind : Kind → List ℕ → Type 0
OfKind ascii l = length l ≡ 128
OfKind wide l = (count : ℕ) × (ranges : List ℕ) × (l ≡ count ∷ ranges) × (length ranges ≡ count * 3)

-- "the stated rows .. fit the lent pool": n rows stand in it, one behind the other
pub record Stand (k : Kind) (w : List ℕ) (n : ℕ) : Type 0 where
  pub rows : List (List ℕ)
  pub as_many : length rows ≡ n
  pub of_kind : All (OfKind k) rows
  pub rest : List ℕ
  pub whole : w ≡ each (λ l. l) rows ++ rest

-- a row that its field allows: not "ascii row not 128 long; wide row not in threes, or a target past 65535"
abbrev pub RowAllowed : Kind → List ℕ → Type 0
RowAllowed ascii row = length row ≡ 128
RowAllowed wide row = (ranges : Row) × (row ≡ numbers ranges) × All RangeFields ranges

-- row i is the first that is equal
pub record FirstEqual (rows : List (List ℕ)) (row : List ℕ) (i : ℕ) : Type 0 where
  pub within : i < length rows
  pub equal : get_or rows i [] ≡ row
  pub before : (j : ℕ) → j < i → get_or rows j [] ≡ row → ⊥

abbrev pub NoneEqual : List (List ℕ) → List ℕ → Type 0
NoneEqual rows row = (j : ℕ) → j < length rows → get_or rows j [] ≡ row → ⊥

-- not "a pool can't take a new row": room is left behind the rows for it, and a number of 32 bits can count its ranges
abbrev pub CanTake : Kind → List ℕ → List ℕ → Type 0
CanTake ascii rest row = length row ≤ length rest
CanTake wide rest row = (1 + length row ≤ length rest) × (length row / 3 ≤ NONE)

-- "Order: NOT-TABLE .., FIELD .., ROOM"; "Only an appended row's numbers change": what a call says, and what it leaves in the pool
pub record InternedBy (k : Kind) (w : List ℕ) (n : ℕ) (row : List ℕ) (says : Said) (left : List ℕ) : Type 0 where
  pub not_table_lem : (p : ℕ) → Exactly (says ≡ no NOT-TABLE p) ((p ≡ 0) × (Stand k w n → ⊥))
  pub field : (p : ℕ) → Exactly (says ≡ no FIELD p) ((p ≡ 0) × Stand k w n × (RowAllowed k row → ⊥))
  pub room : (p : ℕ) → Exactly (says ≡ no ROOM p)
      ((p ≡ 0) × (s : Stand k w n) × RowAllowed k row × NoneEqual s.rows (standing k row) × (CanTake k s.rest row → ⊥))
  -- "answer the place of the first equal row, else append"
  pub answers : (i : ℕ) → Exactly (says ≡ ok (i ∷ []))
      ((s : Stand k w n) × RowAllowed k row
      × (FirstEqual s.rows (standing k row) i ⊎ (NoneEqual s.rows (standing k row) × CanTake k s.rest row × (i ≡ n))))
  -- a row that is appended stands behind the others; else the pool stays as it stood
  pub appends : (s : Stand k w n) → says ≡ ok (n ∷ []) → left ≡ each (λ l. l) s.rows ++ (standing k row ++ drop (length (standing k row)) s.rest)
  pub stays : (says ≡ ok (n ∷ []) → ⊥) → left ≡ w
  -- no other number is given, and no item
  pub no_other : (r : Refusal) → says ≡ no_by r → ((r.number ≡ NOT-TABLE) ⊎ (r.number ≡ FIELD) ⊎ (r.number ≡ ROOM)) × (r.item ≡ 0)

-- x is what the call may answer by its own contract, and `left` what it leaves in the pool, which is its first argument at exit
abbrev pub InternAsciiAnswers : (pool : MutBor (List ℕ)) (rows : ℕ) (row : Bor (List ℕ)) → Result ℕ Refusal → List ℕ → Type 0
InternAsciiAnswers pool rows row x left = (κs : Lfts 2) × (e : _) × intern-ascii.Learnt κs (pool, (rows, (row, tt))) x e × (e.0.now ≡ left)

abbrev pub InternWideAnswers : (pool : MutBor (List ℕ)) (rows : ℕ) (row : Bor (List ℕ)) → Result ℕ Refusal → List ℕ → Type 0
InternWideAnswers pool rows row x left = (κs : Lfts 2) × (e : _) × intern-wide.Learnt κs (pool, (rows, (row, tt))) x e × (e.0.now ≡ left)
