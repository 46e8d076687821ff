-- DEMAND 3 (document 00), "Rows keep the algebra of sets", as statements: by what the records hold, and by what is looked up in the rows. ts and us are
-- transition lists, `targets` and `conts` are what the caller gave each distinct mask, p is a point. Assumes nothing.
use Rattle.std.specs.Prelude.{ℕ, ◌-◌, ◌/◌, ◌%◌, ◌^◌, ◌<◌, ◌≡◌, Bool, true, ◌&&◌, List, [], ◌∷◌, length, get_or, leb, ltb}
use Rattle.refusal.specs.Lists.{pick}
use Rattle.refusal.specs.Fixed.{NONE, DEAD-STATE}
use Rattle.buffer.specs.Over.{zeros}
use Rattle.list_transitions.specs.Transition.{Transition, wildcard, points, holds}
use Rattle.list_segments.specs.Segments.{cuts_of}
use Rattle.list_masks.specs.Masks.{bit, words_for, mask_of, distinct_of}
use Rattle.law_lookups.specs.Looks.{goal_at}
use Rattle.law_rows.specs.Row.{target_in, numbers}
use Rattle.law_rows.specs.Build.{ascii_of, wide_of, escape_of}

-- transition i holds p, by its record
abbrev pub held_by : List Transition → ℕ → ℕ → Bool
held_by ts i p = holds (get_or ts i wildcard) p

-- bit i of a mask
abbrev pub mask_bit : List ℕ → ℕ → ℕ
mask_bit m i = get_or m (i / 64) 0 / 2 ^ (i % 64) % 2

-- a mask is of "exactly the transitions holding that point"
abbrev pub HoldersMask : List Transition → ℕ → List ℕ → Type 0
HoldersMask ts p m = (i : ℕ) → i < length ts → mask_bit m i ≡ bit (held_by ts i p)

-- what is looked up in the rows of a build
abbrev pub target_at : List Transition → List ℕ → ℕ → ℕ
target_at ts targets p = target_in (ascii_of ts targets) (wide_of ts targets) p

abbrev pub cont_at : List Transition → List ℕ → List ℕ → ℕ → ℕ
cont_at ts targets conts p = goal_at NONE (escape_of ts targets conts) p

-- "the target looked up .. is the one given for exactly the transitions holding that point": one of the distinct masks is of exactly these, and no other;
-- "the continuation looked up is likewise the one given, and none where the target is dead"
pub record Placed (ts : List Transition) (targets conts : List ℕ) (p : ℕ) : Type 0 where
  pub place : ℕ
  pub within : place < length (distinct_of ts)
  pub exactly : HoldersMask ts p (get_or (distinct_of ts) place [])
  pub alone : (k : ℕ) → k < length (distinct_of ts) → HoldersMask ts p (get_or (distinct_of ts) k []) → k ≡ place
  pub target : target_at ts targets p ≡ get_or targets place DEAD-STATE
  pub cont_dead : get_or targets place DEAD-STATE ≡ DEAD-STATE → cont_at ts targets conts p ≡ NONE
  pub cont_live : (get_or targets place DEAD-STATE ≡ DEAD-STATE → ⊥) → cont_at ts targets conts p ≡ get_or conts place NONE

-- "and dead where none does"
pub record Dead (ts : List Transition) (targets conts : List ℕ) (p : ℕ) : Type 0 where
  pub target : target_at ts targets p ≡ DEAD-STATE
  pub cont : cont_at ts targets conts p ≡ NONE

-- "at each code point from 0 to 1,114,111"
pub record Looked (ts : List Transition) (targets conts : List ℕ) : Type 0 where
  pub held : (p : ℕ) → p < points → (i : ℕ) → i < length ts → held_by ts i p ≡ true → Placed ts targets conts p
  pub unheld : (p : ℕ) → p < points → ((i : ℕ) → i < length ts → held_by ts i p ≡ true → ⊥) → Dead ts targets conts p

-- the mask of the segment that has p; "A point in no segment has the empty mask."
unfoldable pub segment_mask_from : List Transition → ℕ → ℕ → List ℕ → List ℕ
segment_mask_from ts p c [] = zeros (words_for (length ts))
segment_mask_from ts p c (n ∷ cuts) = pick (leb c p && ltb p n) (mask_of ts c) (segment_mask_from ts p n cuts)

unfoldable pub segment_mask_over : List Transition → ℕ → List ℕ → List ℕ
segment_mask_over ts p [] = zeros (words_for (length ts))
segment_mask_over ts p (c ∷ cuts) = segment_mask_from ts p c cuts

abbrev pub segment_mask : List Transition → ℕ → List ℕ
segment_mask ts p = segment_mask_over ts p (cuts_of ts)

-- "each transition's bit is flipped at every point"
abbrev pub Flipped : List Transition → List Transition → Type 0
Flipped ts us = (p i : ℕ) → p < points → i < length ts → mask_bit (segment_mask us p) i ≡ 1 - mask_bit (segment_mask ts p) i

-- "Two builds whose rows answer the same target and continuation at every point"
pub record SameAnswers (ts us : List Transition) (targets others conts others' : List ℕ) : Type 0 where
  pub targets_same : (p : ℕ) → p < points → target_at ts targets p ≡ target_at us others p
  pub conts_same : (p : ℕ) → p < points → cont_at ts targets conts p ≡ cont_at us others others' p

-- "have the same rows, number for number"
pub record SameRows (ts us : List Transition) (targets others conts others' : List ℕ) : Type 0 where
  pub ascii : ascii_of ts targets ≡ ascii_of us others
  pub wide : numbers (wide_of ts targets) ≡ numbers (wide_of us others)
  pub escape : numbers (escape_of ts targets conts) ≡ numbers (escape_of us others others')

-- x is one of the numbers that were given
abbrev pub OneOf : List ℕ → ℕ → Type 0
OneOf given x = (i : ℕ) × (i < length given) × (get_or given i 0 ≡ x)
