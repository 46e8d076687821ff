-- When decode refuses, and with which place (document 01, "Refusals by number"): demand 1, "one numbered refusal, given on the stated condition and never
-- otherwise". What words begin a table, end inside it or open with it is said in law_tables, specs/Fronts.antt. Assumes nothing.
use Rattle.std.specs.Prelude.{ℕ, ◌≤◌, ◌<◌, ◌≡◌, List, ◌⊎◌, length}
use Rattle.refusal.specs.declared.Refusal.{Refusal}
use Rattle.refusal.specs.Said.{Said, no, no_by, broken_by, SHORT, TAG, FIELD, LIMIT, LEFT, INDEX, ROOM}
use Rattle.law_tables.specs.Table.{Table, words_of, Fields}
use Rattle.law_tables.specs.Rules.{FirstBroken}
use Rattle.law_tables.specs.Fronts.{EndsInside, Differs, Forbids, Opens, Exactly}
use Rattle.lexer_dfa.specs.Demands.{From}

-- "Decoding: ROOM (table room under 16,384 numbers), LIMIT, then words in order": words are read into a room of n numbers where neither is given
abbrev pub WithinLimits : (w : List ℕ) (n : ℕ) → Type 0
WithinLimits w n = (16384 ≤ n) × (length w ≤ 8192)

-- "6 INDEX | an index rule is broken": w is the words of a table whose fields are allowed, k is the first rule that it breaks, and i "the first
-- mode, state, row or continuation that breaks that rule"
abbrev pub Breaks : (w : List ℕ) (k i : ℕ) → Type 0
Breaks w k i = (t : Table) × Fields t × FirstBroken t k i × (w ≡ words_of t)

-- "Given exactly when", and "Place returned": what decode says of words w and a room of n numbers
pub record RefusedBy (w : List ℕ) (n : ℕ) (says : Said) : Type 0 where
  -- "1 SHORT | the input ends inside a field or record"; "SHORT in words returns the word count"
  pub short : (p : ℕ) → Exactly (says ≡ no SHORT p) (WithinLimits w n × ((p ≡ length w) × EndsInside w))
  -- "2 TAG | the first word differs | 0"
  pub tag : (p : ℕ) → Exactly (says ≡ no TAG p) (WithinLimits w n × ((p ≡ 0) × Differs w))
  -- "3 FIELD | a value its field forbids | its word, or record offset; 0 outside lists": a table is a list of words
  pub field : (p : ℕ) → Exactly (says ≡ no FIELD p) (WithinLimits w n × Forbids w p)
  -- "4 LIMIT | over 8,192 words; 256 transitions; 1,024 intervals a list | 8192, or record offset": the first of these
  pub limit : (p : ℕ) → Exactly (says ≡ no LIMIT p) ((p ≡ 8192) × (16384 ≤ n) × (8192 < length w))
  -- "5 LEFT | words remain | first unread"
  pub left : (p : ℕ) → Exactly (says ≡ no LEFT p) (WithinLimits w n × ((p < length w) × Opens w p))
  -- "6 INDEX | an index rule is broken | rule number", with the item
  pub index : (p i : ℕ) → Exactly (says ≡ no_by (broken_by p i)) (WithinLimits w n × Breaks w p i)
  -- "7 ROOM | a lent buffer is shorter than stated, or a pool can't take a new row | 0": the room of a table is lent
  pub room : (p : ℕ) → Exactly (says ≡ no ROOM p) ((p ≡ 0) × (n < 16384))
  -- no other number is given, and the item is 0 "for all other refusals"
  pub no_other : (r : Refusal) → says ≡ no_by r → From 1 7 r.number × ((r.item ≡ 0) ⊎ (r.number ≡ INDEX))
