-- When the layout refuses words (document 01, "Refusals by number"), in terms of tables: words begin a table, or they do not.
use Rattle.std.specs.Prelude.{ℕ, ◌+◌, ◌≤◌, ◌<◌, ◌%◌, ◌≡◌, List, ◌∷◌, ◌++◌, ◌⊎◌, length, get_or, take, Err}
use Rattle.refusal.specs.declared.Refusal.{Refusal}
use Rattle.refusal.specs.Said.{SHORT, TAG, FIELD, LEFT, ok}
use Rattle.refusal.specs.Fixed.{tag}
use Rattle.refusal.specs.Lists.{each}
use Rattle.word_layout.specs.Layout.{said, unfound, layout_of}
use Rattle.law_tables.specs.Table.{Table, counted, mode_words, state_words, run_words, context_words, config_words, continuation_words, words_of, Fields}

-- some words behind w make it the words of a table whose fields are allowed
abbrev pub Begins : List ℕ → Type 0
Begins w = (t : Table) × (more : List ℕ) × Fields t × (w ++ more ≡ words_of t)

-- they do, and at least one word is missing
abbrev pub Unfinished : List ℕ → Type 0
Unfinished w = (t : Table) × (more : List ℕ) × Fields t × (w ++ more ≡ words_of t) × (1 ≤ length more)

-- one record of a list, and those before and after it
pub record One {A : Type 0} (xs : List A) : Type 0 where
  pub before : List A
  pub it : A
  pub after : List A
  pub all : xs ≡ before ++ (it ∷ after)

-- where u ends, a run of a table is due: u is the tag, the modes, the states, the count of the runs, and the runs before it
abbrev pub RunDue : List ℕ → Type 0
RunDue u = (t : Table) × Fields t × (run : One t.runs)
    × (u ≡ tag ∷ (counted mode_words t.modes ++ (counted state_words t.states ++ (length t.runs ∷ each run_words run.before))))

-- where u ends, a context of a table is due: of the table's words are missing only it and the contexts after it, their configs,
-- and the continuations after theirs
abbrev pub ContextDue : List ℕ → Type 0
ContextDue u = (t : Table) × Fields t × (c : One t.continuations) × (x : One c.it.contexts)
    × (u ++ (each context_words (x.it ∷ x.after) ++ (counted config_words c.it.configs ++ each continuation_words c.after)) ≡ words_of t)

-- "A kind-5 run reads its three words, and a context its three, before FIELD, at the first of them": such a record is due at p, and opened by the word there
abbrev pub ThreeAt : List ℕ → ℕ → Type 0
ThreeAt w p = (RunDue (take p w) × (get_or w p 0 % 256 ≡ 5)) ⊎ ContextDue (take p w)

-- "1 SHORT | the input ends inside a field or record": w begins a table and is not all of it, or ends behind one or two words of such a record
abbrev pub EndsInside : List ℕ → Type 0
EndsInside w = Unfinished w ⊎ ((p : ℕ) × (p < length w) × (length w < p + 3) × Begins (take p w) × ThreeAt w p)

-- "2 TAG | the first word differs"
abbrev pub Differs : List ℕ → Type 0
Differs w = (x : ℕ) × (more : List ℕ) × (w ≡ x ∷ more) × (x ≡ tag → ⊥)

-- with the word at p, w begins no table; and that word stands in no such record
abbrev pub WordForbidden : List ℕ → ℕ → Type 0
WordForbidden w p = (p < length w) × (Begins (take (p + 1) w) → ⊥) × ((q : ℕ) → q ≤ p → p < q + 3 → ThreeAt w q → ⊥)

-- with the three words of such a record at p, w begins no table
abbrev pub ThreeForbidden : List ℕ → ℕ → Type 0
ThreeForbidden w p = (p + 3 ≤ length w) × (Begins (take (p + 3) w) → ⊥) × ThreeAt w p

-- "3 FIELD | a value its field forbids": behind the tag, w begins a table up to p, and goes on so
abbrev pub Forbids : List ℕ → ℕ → Type 0
Forbids w p = (1 ≤ p) × Unfinished (take p w) × (WordForbidden w p ⊎ ThreeForbidden w p)

-- w is the words of a table whose fields are allowed
abbrev pub IsTable : List ℕ → Type 0
IsTable w = (t : Table) × Fields t × (w ≡ words_of t)

-- w opens with the words of a table, which end at p
abbrev pub Opens : List ℕ → ℕ → Type 0
Opens w p = (t : Table) × (more : List ℕ) × Fields t × (w ≡ words_of t ++ more) × (length (words_of t) ≡ p)

abbrev pub Exactly : Type 0 → Type 0 → Type 0
Exactly A B = (A → B) × (B → A)

-- "Given exactly when", and "Place returned", of the layout of w
pub record Refusals (w : List ℕ) : Type 0 where
  pub found : Exactly ((l : List ℕ) × (said (layout_of w) ≡ ok l)) (IsTable w)
  pub short : (p : ℕ) → Exactly (layout_of w ≡ unfound SHORT p) ((p ≡ length w) × EndsInside w)
  pub differs : (p : ℕ) → Exactly (layout_of w ≡ unfound TAG p) ((p ≡ 0) × Differs w)
  pub field : (p : ℕ) → Exactly (layout_of w ≡ unfound FIELD p) (Forbids w p)
  -- "5 LEFT | words remain"
  pub left : (p : ℕ) → Exactly (layout_of w ≡ unfound LEFT p) ((p < length w) × Opens w p)
  -- no other number, and no item
  pub no_other : (r : Refusal) → layout_of w ≡ Err r
      → ((r.number ≡ SHORT) ⊎ (r.number ≡ TAG) ⊎ (r.number ≡ FIELD) ⊎ (r.number ≡ LEFT)) × (r.item ≡ 0)
