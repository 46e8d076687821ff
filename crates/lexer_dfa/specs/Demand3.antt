-- DEMAND 3 (document 00), "Rows keep the algebra of sets", over the calls' own contracts: of the bytes that a call is given, and of the numbers that it leaves
-- in the buffers that it is lent. w is a list's bytes, p a point. Assumes nothing.
use Rattle.std.specs.Prelude.{ℕ, zero, suc, ◌+◌, ◌*◌, ◌-◌, ◌/◌, ◌%◌, ◌^◌, ◌≤◌, ◌<◌, ◌≡◌, Bool, true, ◌&&◌, List, [], leb, ltb, length, get_or, take}
use contract.Lifetimes.{Lfts}
use Rattle.std.specs.Borrow.{Bor, MutBor}
use Rattle.refusal.specs.Lists.{pick}
use Rattle.refusal.specs.Fixed.{NONE, DEAD-STATE}
use Rattle.look_row.specs.Search.{found, given}
use Rattle.law_tables.specs.Table.{Table}
use Rattle.law_tables.specs.Rules.{Searchable, row_of}
use Rattle.law_lookups.specs.Looks.{state_of, escape_of, of_state, char_target_of, char_continuation_of}
use Rattle.list_transitions.specs.Transition.{Transition, points}
use Rattle.list_transitions.specs.Read.{parse, is_parsed, accepted}
use Rattle.list_masks.specs.declared.Masks.{Masks}
use Rattle.list_masks.specs.Masks.{bit, words_for, distinct_of}
use Rattle.list_masks.proofs.segment_mask_matrix.Reads as matrix
use Rattle.list_distinct.proofs.distinct_masks.Reads as distinct
use Rattle.law_rows.specs.Row.{Row, Each, numbers}
use Rattle.law_rows.specs.Demand.{held_by, OneOf}
use Rattle.row_build.specs.declared.Rows.{Rows}
use Rattle.row_build.proofs.build_rows.Reads as build
use Rattle.std.specs.Prelude.{Result, Ok}
use Rattle.refusal.specs.declared.Refusal.{Refusal}

-- "accepted": every record of the list is read; these are its transitions
abbrev pub ListAccepted : List ℕ → Type 0
ListAccepted w = is_parsed (parse w) ≡ true

abbrev pub list_of : List ℕ → List Transition
list_of w = accepted (parse w)

-- transition i of the list holds p, by its record and not by its intervals
abbrev pub holds_at : List ℕ → ℕ → ℕ → Bool
holds_at w i p = held_by (list_of w) i p

-- "ceil(n/64) words each"
abbrev pub words_per_mask : List ℕ → ℕ
words_per_mask w = words_for (length (list_of w))

-- bit i of the mask that stands at a place of a buffer of 64-bit words
abbrev pub bit_at : List ℕ → ℕ → ℕ → ℕ
bit_at buffer at i = get_or buffer (at + i / 64) 0 / 2 ^ (i % 64) % 2

-- The row call

-- what `build_rows` is given and lent
pub record RowArgs : Type 0 where
  pub list : Bor (List ℕ)
  pub targets : Bor (List ℕ)
  pub conts : Bor (List ℕ)
  pub segments : MutBor (List ℕ)
  pub masks : MutBor (List ℕ)
  pub distinct : MutBor (List ℕ)
  pub ascii : MutBor (List ℕ)
  pub wide : MutBor (List ℕ)
  pub escape : MutBor (List ℕ)

-- what it leaves in four of its buffers: the distinct masks, and the rows
pub record RowsLeft : Type 0 where
  pub distinct : List ℕ
  pub ascii : List ℕ
  pub wide : List ℕ
  pub escape : List ℕ

-- `build_rows` may answer x by its own contract, and leave these numbers in the buffers, which are its last four arguments at exit
abbrev pub BuildAnswers : RowArgs → Result Rows Refusal → RowsLeft → Type 0
BuildAnswers a x l =
    (κs : Lfts 9) × (e : _)
    × build.Learnt κs (a.list, (a.targets, (a.conts, (a.segments, (a.masks, (a.distinct, (a.ascii, (a.wide, (a.escape, tt))))))))) x e
    × (e.1.1.1.1.1.0.now ≡ l.distinct)
    × (e.1.1.1.1.1.1.0.now ≡ l.ascii)
    × (e.1.1.1.1.1.1.1.0.now ≡ l.wide)
    × (e.1.1.1.1.1.1.1.1.0.now ≡ l.escape)

-- "For any accepted transition list and one target per distinct mask", and a continuation for each, with the room that document 01 states
pub record Asked (a : RowArgs) : Type 0 where
  pub accepted : ListAccepted a.list.now
  pub a_target_each : length a.targets.now ≡ length (distinct_of (list_of a.list.now))
  pub a_continuation_each : length a.conts.now ≡ length (distinct_of (list_of a.list.now))
  pub segments-room : 4096 ≤ length a.segments.now
  pub masks_room : 8192 ≤ length a.masks.now
  pub distinct-room : 8192 ≤ length a.distinct.now
  pub ascii_room : 128 ≤ length a.ascii.now
  pub wide_room : 6144 ≤ length a.wide.now
  pub escape_room : 6144 ≤ length a.escape.now

-- "looked up": the first n numbers of a buffer, three to a range, are searched as a lookup searches a row in a room; `other` is given where no range holds p
abbrev pub searched_for : ℕ → List ℕ → ℕ → ℕ → ℕ
searched_for other row n p = given (Ok (found row p (n / 3) 0)) (λ goal. goal) other other

-- "0 to 127 use the ascii row; otherwise" the wide row, of n numbers
abbrev pub target_at : RowsLeft → ℕ → ℕ → ℕ
target_at l n p = pick (ltb p 128) (get_or l.ascii p 0) (searched_for DEAD-STATE l.wide n p)

-- "Escape rows serve ASCII too": the escape row has m numbers
abbrev pub cont_at : RowsLeft → ℕ → ℕ → ℕ
cont_at l m p = searched_for NONE l.escape m p

-- the distinct mask k, as it stands in its buffer, is of "exactly the transitions holding that point"
abbrev pub OfExactly : List ℕ → List ℕ → ℕ → ℕ → Type 0
OfExactly w distinct p k = (i : ℕ) → i < length (list_of w) → bit_at distinct (k * words_per_mask w) i ≡ bit (holds_at w i p)

-- "the target looked up at each code point .. is the one given for exactly the transitions holding that point": one distinct mask is of these, and no other;
-- "the continuation looked up is likewise the one given, and none where the target is dead"
pub record Placed (w targets conts : List ℕ) (n m : ℕ) (l : RowsLeft) (p : ℕ) : Type 0 where
  pub place : ℕ
  pub within : place < length targets
  pub exactly : OfExactly w l.distinct p place
  pub alone : (k : ℕ) → k < length targets → OfExactly w l.distinct p k → k ≡ place
  pub target : target_at l n p ≡ get_or targets place DEAD-STATE
  pub cont_dead : get_or targets place DEAD-STATE ≡ DEAD-STATE → cont_at l m p ≡ NONE
  pub cont_live : (get_or targets place DEAD-STATE ≡ DEAD-STATE → ⊥) → cont_at l m p ≡ get_or conts place NONE

-- "and dead where none does"
pub record Dead (n m : ℕ) (l : RowsLeft) (p : ℕ) : Type 0 where
  pub target : target_at l n p ≡ DEAD-STATE
  pub cont : cont_at l m p ≡ NONE

-- the first n numbers of a buffer are a row as rules 6 and 8 want it: "Searchable: low at most high, each high below the next low", and each of its targets, or
-- of its continuations, is one that was given
pub record Stands (buffer : List ℕ) (n : ℕ) (goals : List ℕ) : Type 0 where
  pub ranges : Row
  pub as_many : n ≡ 3 * length ranges
  pub are : take n buffer ≡ numbers ranges
  pub searchable : Searchable ranges
  pub goals_given : Each (λ r. OneOf goals r.goal) ranges

-- the call answers rows, and they are so "at each code point from 0 to 1,114,111"
pub record RowsKept (w targets conts : List ℕ) (x : Result Rows Refusal) (l : RowsLeft) : Type 0 where
  pub wide : ℕ
  pub escape : ℕ
  pub answer : x ≡ Ok (record { wide = wide; escape = escape })
  pub held : (p : ℕ) → p < points → (i : ℕ) → i < length (list_of w) → holds_at w i p ≡ true → Placed w targets conts wide escape l p
  pub unheld : (p : ℕ) → p < points → ((i : ℕ) → i < length (list_of w) → holds_at w i p ≡ true → ⊥) → Dead wide escape l p
  pub wide_stands : Stands l.wide wide targets
  pub escape_stands : Stands l.escape escape conts

-- the rows stand in a table t, number for number, as those of its state s
pub record RowsIn (t : Table) (s : ℕ) (n m : ℕ) (l : RowsLeft) : Type 0 where
  pub ascii : row_of t s ≡ take 128 l.ascii
  pub wide : numbers (get_or t.wide (state_of t s).wide []) ≡ take n l.wide
  pub escape : numbers (escape_of t s).ranges ≡ take m l.escape

-- and then `char_target` and `char_continuation` answer on the table what was looked up in the buffers
pub record SameLookups (t : Table) (s : ℕ) (n m : ℕ) (l : RowsLeft) : Type 0 where
  pub target : (p : ℕ) → char_target_of t s p ≡ of_state t s (target_at l n p)
  pub cont : (p : ℕ) → char_continuation_of t s p ≡ of_state t s (cont_at l m p)

-- "Two builds whose rows answer the same target and continuation at every point": rows l of n and m numbers, and rows k of n' and m' numbers
pub record SameAnswers (n m : ℕ) (l : RowsLeft) (n' m' : ℕ) (k : RowsLeft) : Type 0 where
  pub targets : (p : ℕ) → p < points → target_at l n p ≡ target_at k n' p
  pub conts : (p : ℕ) → p < points → cont_at l m p ≡ cont_at k m' p

-- "have the same rows, number for number"
pub record SameRows (n m : ℕ) (l : RowsLeft) (n' m' : ℕ) (k : RowsLeft) : Type 0 where
  pub wide_as_many : n ≡ n'
  pub escape_as_many : m ≡ m'
  pub ascii : take 128 l.ascii ≡ take 128 k.ascii
  pub wide : take n l.wide ≡ take n' k.wide
  pub escape : take m l.escape ≡ take m' k.escape

-- Masks

-- `segment_mask_matrix` may answer x by its own contract, and leave these numbers in the buffers for segments and masks
abbrev pub MatrixAnswers : (list : Bor (List ℕ)) (segments masks : MutBor (List ℕ)) → Result Masks Refusal → (s m : List ℕ) → Type 0
MatrixAnswers list segments masks x s m =
    (κs : Lfts 3) × (e : _) × matrix.Learnt κs (list, (segments, (masks, tt))) x e × (e.1.0.now ≡ s) × (e.1.1.0.now ≡ m)

-- bit i at p: of the mask of the segment that has p, where n segments stand from `at` on as low, high, and their masks, k words each, from `mask` on.
-- "A point in no segment has the empty mask."
unfoldable pub bit_from : (s m : List ℕ) (k p i : ℕ) → ℕ → ℕ → ℕ → ℕ
bit_from s m k p i zero at mask = 0
bit_from s m k p i (suc n) at mask =
    pick (leb (get_or s at 0) p && leb p (get_or s (at + 1) 0)) (bit_at m mask i) (bit_from s m k p i n (at + 2) (mask + k))

-- "Mask bit i is set where transition i holds the segment": n masks of k words are answered
abbrev pub point_bit : (s m : List ℕ) (n k p i : ℕ) → ℕ
point_bit s m n k p i = bit_from s m k p i n 0 0

-- "accepted", with the room that document 01 states
pub record MasksAsked (list : Bor (List ℕ)) (segments masks : MutBor (List ℕ)) : Type 0 where
  pub accepted : ListAccepted list.now
  pub segments-room : 4096 ≤ length segments.now
  pub masks_room : 8192 ≤ length masks.now

-- the call answers masks, and each bit at each point says whether its transition holds it
pub record MasksKept (w : List ℕ) (x : Result Masks Refusal) (s m : List ℕ) : Type 0 where
  pub count : ℕ
  pub answer : x ≡ Ok (record { masks = count; words = (words_per_mask w) })
  pub bits : (p i : ℕ) → p < points → i < length (list_of w) → point_bit s m count (words_per_mask w) p i ≡ bit (holds_at w i p)

-- "each transition's bit is flipped at every point": of the masks of v and of w
pub record Flipped (v : List ℕ) (x : Result Masks Refusal) (s m : List ℕ) (w : List ℕ) (y : Result Masks Refusal) (s' m' : List ℕ) : Type 0 where
  pub first : MasksKept v x s m
  pub second : MasksKept w y s' m'
  pub as_many : length (list_of v) ≡ length (list_of w)
  pub flips : (p i : ℕ) → p < points → i < length (list_of v) →
      point_bit s' m' second.count (words_per_mask w) p i ≡ 1 - point_bit s m first.count (words_per_mask v) p i

-- `distinct_masks` may answer x by its own contract, and leave these numbers in the buffer for distinct masks
abbrev pub DistinctAnswers : (list : Bor (List ℕ)) (segments masks out : MutBor (List ℕ)) → Result Masks Refusal → List ℕ → Type 0
DistinctAnswers list segments masks out x d =
    (κs : Lfts 4) × (e : _) × distinct.Learnt κs (list, (segments, (masks, (out, tt)))) x e × (e.1.1.1.0.now ≡ d)

-- "the caller gives each a 16-bit target and a continuation": the n masks of k words that were told are those by which the row call was given its targets and
-- its continuations, number for number and so in one order
pub record MasksAgree (n k : ℕ) (d : List ℕ) (targets conts : List ℕ) (l : RowsLeft) : Type 0 where
  pub a_target_each : length targets ≡ n
  pub a_continuation_each : length conts ≡ n
  pub same : take (n * k) d ≡ take (n * k) l.distinct
