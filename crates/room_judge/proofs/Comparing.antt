-- The laws of the loops and chains that compare a room, by the tests that the code makes: what is to come, compared from here, gives
-- what all of it gives. `ok` is what a test answered, `got` what a reader did. Assumes nothing.
use Prim.Native.Nat.{ℕ, suc, ◌+◌, ◌-◌, ◌<◌, ◌≤◌}
use native.Mathlib.Numerals.{add-one}
use native.Mathlib.Omega.{arith}
use mathlib.Core.Path.{◌≡◌, refl, sym, ◌∙◌}
use mathlib.Core.List.{List, [], ◌∷◌, ◌++◌}
use mathlib.Core.Bool.{Bool, true, false, ◌&&◌, and-true, and_assoc}
use borrow.Author.Rules.{rules}
use borrow.Author.Tests.{lt-ltb, le-ltb, eq-eqb, ne_eqb}
use lib.Dec.{eqb}
use lib.ListN.{length, get_or, take, drop, drop_of_length-le}
use lib.Pointwise.{pointwise}
use lib.Seq.{drop-cons}
use Rattle.std.specs.Prelude.{Option, Some, None, Ok, Err, is_some}
use Rattle.refusal.specs.declared.Refusal.{Refusal}
use Rattle.refusal.specs.Lists.{pick, every, each}
use Rattle.word_reader.specs.declared.Sections.{Sections}
use Rattle.word_reader.specs.Parse.{Place}
use Rattle.word_reader.specs.Records.{run_at, wide_at, accept_at, escape_at, continuation_at}
use Rattle.rule_words.specs.Flags.{accept_plain, continuation_plain}
use Rattle.rule_words.proofs.Laws.{in_section}
use Rattle.rule_walk.specs.declared.Question.TheVariants.{AcceptIsPlain, ContinuationIsPlain}
use Rattle.rule_walk.specs.Questions.{all_pass}
use Rattle.room_fill.specs.Room.{starts_from, starts, in_room, shifted, placed, places}
use Rattle.room_fill.proofs.Writing.{record_limit}
use Rattle.room_judge.specs.Standing.{stands_at, standing, flags_plain}

-- One number

pub stands_past : (x n : ℕ) (d : List ℕ) → length d ≤ n → stands_at x n d ≡ false
unfolding stands_at
stands_past x n d h = rw (le-ltb n (length d) h)

pub stands-there : (x n : ℕ) (d : List ℕ) → n < length d → stands_at x n d ≡ eqb (get_or d n 0) x
unfolding stands_at
stands-there x n d h = rw (lt-ltb n (length d) h)

-- A part of the room that is a list, number for number

pub part_stands : (xs : List ℕ) (n : ℕ) (d : List ℕ) → n + length xs ≤ length d → pointwise eqb (take (length xs) (drop n d)) xs ≡ is_some (standing xs n d)
unfolding standing
part_stands [] n d h = refl
part_stands (x ∷ xs) n d h =
    let l : n < length d = omega arith in
    rw (drop-cons d n 0 l, stands-there x n d l) (go (eqb (get_or d n 0) x) (rw add-one at (part_stands xs (n + 1) d (omega arith))))
  where
    go : (b : Bool) → pointwise eqb (take (length xs) (drop (suc n) d)) xs ≡ is_some (standing xs (suc n) d)
        → (b && pointwise eqb (take (length xs) (drop (suc n) d)) xs) ≡ is_some (pick b (standing xs (n + 1) d) None)
    go true e = rw add-one e
    go false e = refl

-- The places of records: g reads them, count - i of them are left

module _ (g : ℕ → Place) (d : List ℕ) (count i here m : ℕ) where
  abbrev pub coming : Option ℕ
  coming = standing (each shifted (starts g (count - i) here)) m d

module _ (g : ℕ → Place) (d : List ℕ) (count i here m : ℕ) {got : Place} {all : Option ℕ} (k : coming g d count i here m ≡ all) where
  module _ (h : i < count) (e : got ≡ g here) where
    module _ {p : ℕ} (n : got ≡ Ok p) where
      opened : pick (stands_at (in_room here) m d) (coming g d count (i + 1) p (m + 1)) None ≡ all
      unfolding each starts starts_from standing
      opened = let j : count - i ≡ suc (count - (i + 1)) = omega arith in rw (j, ← e, n) at k

      -- it stands there, or not
      pub place_passed : m < length d → {x : ℕ} → x ≡ in_room here → get_or d m 0 ≡ x → coming g d count (i + 1) p (m + 1) ≡ all
      place_passed l o y = rw (stands-there (in_room here) m d l, eq-eqb (get_or d m 0) (in_room here) (y ∙ o)) at opened

      pub place_differs : m < length d → {x : ℕ} → x ≡ in_room here → (get_or d m 0 ≡ x → ⊥) → None ≡ all
      place_differs l o y = rw (stands-there (in_room here) m d l, ne_eqb (get_or d m 0) (in_room here) (λ z. y (z ∙ sym o))) at opened

      pub place_past : length d ≤ m → None ≡ all
      place_past l = rw (stands_past (in_room here) m d l) at opened

    -- no record is read
    pub place_lost : ((p : ℕ) → got ≡ Ok p → ⊥) → Some m ≡ all
    unfolding each starts starts_from standing
    place_lost q = go got refl
      where
        stop : {r : Refusal} → got ≡ Err r → Some m ≡ all
        stop n = let j : count - i ≡ suc (count - (i + 1)) = omega arith in rw (j, ← e, n) at k

        go : (o : Place) → got ≡ o → Some m ≡ all
        go (Ok p) z = absurd (q p z)
        go (Err r) z = stop z

pub places_done : (g : ℕ → Place) (d : List ℕ) (count i here m : ℕ) {all : Option ℕ} → coming g d count i here m ≡ all → count ≤ i → Some m ≡ all
unfolding each starts standing
places_done g d count i here m k h = let j : count - i ≡ 0 = omega arith in rw j at k

pub places-start : (read : List ℕ → ℕ → Place) (w d : List ℕ) (at n : ℕ)
    → coming (read w) d (get_or w at 0) 0 (at + 1) n ≡ standing (placed read w at) n d
unfolding placed
places-start read w d at n = let j : get_or w at 0 - 0 ≡ get_or w at 0 = omega arith in rw j

-- what a loop over places is left with
pub ruleset placing = (rules, places-start, place_passed, place_differs, place_past, place_lost, places_done, record_limit)

-- One list behind another

abbrev pub onward : Option ℕ → (ℕ → Option ℕ) → Option ℕ
onward (Some p) f = f p
onward None f = None

pub standing-append : (xs ys : List ℕ) (n : ℕ) (d : List ℕ) → standing (xs ++ ys) n d ≡ onward (standing xs n d) (λ p. standing ys p d)
unfolding standing
standing-append [] ys n d = refl
standing-append (x ∷ xs) ys n d = go (stands_at x n d) (standing-append xs ys (n + 1) d)
  where
    go : (b : Bool) → standing (xs ++ ys) (n + 1) d ≡ onward (standing xs (n + 1) d) (λ p. standing ys p d)
        → pick b (standing (xs ++ ys) (n + 1) d) None
        ≡ onward (pick b (standing xs (n + 1) d) None) (λ p. standing ys p d)
    go true h = h
    go false h = refl

-- the first list stands, and the others are asked behind it; or it does not
module _ (xs ys : List ℕ) (n : ℕ) (d : List ℕ) {got : Option ℕ} (g : got ≡ standing xs n d) where
  pub goes_on : {p : ℕ} → got ≡ Some p → standing (xs ++ ys) n d ≡ standing ys p d
  goes_on i = standing-append xs ys n d ∙ (rw (← g, i))

  pub stops : got ≡ None → None ≡ standing (xs ++ ys) n d
  stops i = sym (standing-append xs ys n d ∙ (rw (← g, i)))

-- The places of all records, kind by kind: got is what was answered of each

module _ (w : List ℕ) (s : Sections) (n : ℕ) (d : List ℕ) where
  abbrev A : List ℕ
  A = placed run_at w s.runs

  abbrev B : List ℕ
  B = placed wide_at w s.wide

  abbrev C : List ℕ
  C = placed accept_at w s.accepts

  abbrev D : List ℕ
  D = placed escape_at w s.escapes

  abbrev E : List ℕ
  E = placed continuation_at w s.continuations

  module _ {got : Option ℕ} (g : got ≡ standing A n d) where
    pub stops_a : got ≡ None → None ≡ standing (places w s) n d
    stops_a i = stops A (B ++ (C ++ (D ++ E))) n d g i

    module _ {a : ℕ} (i : got ≡ Some a) {got₂ : Option ℕ} (h : got₂ ≡ standing B a d) where
      behind_a : standing (places w s) n d ≡ standing (B ++ (C ++ (D ++ E))) a d
      behind_a = goes_on A (B ++ (C ++ (D ++ E))) n d g i

      pub stops_b : got₂ ≡ None → None ≡ standing (places w s) n d
      stops_b j = stops B (C ++ (D ++ E)) a d h j ∙ sym behind_a

      module _ {b : ℕ} (j : got₂ ≡ Some b) {got₃ : Option ℕ} (k : got₃ ≡ standing C b d) where
        behind_b : standing (places w s) n d ≡ standing (C ++ (D ++ E)) b d
        behind_b = behind_a ∙ goes_on B (C ++ (D ++ E)) a d h j

        pub stops_c : got₃ ≡ None → None ≡ standing (places w s) n d
        stops_c l = stops C (D ++ E) b d k l ∙ sym behind_b

        module _ {c : ℕ} (l : got₃ ≡ Some c) {got₄ : Option ℕ} (m : got₄ ≡ standing D c d) where
          behind_c : standing (places w s) n d ≡ standing (D ++ E) c d
          behind_c = behind_b ∙ goes_on C (D ++ E) b d k l

          pub stops_d : got₄ ≡ None → None ≡ standing (places w s) n d
          stops_d o = stops D E c d m o ∙ sym behind_c

          pub all_stand : {e : ℕ} {got₅ : Option ℕ} → got₄ ≡ Some e → got₅ ≡ standing E e d → got₅ ≡ standing (places w s) n d
          all_stand o q = q ∙ sym (behind_c ∙ goes_on D E c d m o)

pub ruleset onwards = (rules, stops_a, stops_b, stops_c, stops_d, all_stand)

-- Flags: each record of both sections is asked

pub flags-plain : (w : List ℕ) (x c : ℕ) {p q : Bool} → p ≡ all_pass AcceptIsPlain w x → q ≡ all_pass ContinuationIsPlain w c
    → (p && q) ≡ flags_plain w x c
unfolding flags_plain
flags-plain w x c e f = rw (e ∙ in_section accept_at (accept_plain w) w x, f ∙ in_section continuation_at (continuation_plain w) w c)

pub ruleset all-flags = (rules, flags-plain)

-- Zeros: z says whether all before i are

pub zeros_turn : (d : List ℕ) (i : ℕ) (z : Bool) {all : Bool} → i < length d → z && every (λ x. eqb x 0) (drop i d) ≡ all
    → (z && eqb (get_or d i 0) 0) && every (λ x. eqb x 0) (drop (i + 1) d) ≡ all
unfolding every
zeros_turn d i z h k = rw add-one (and_assoc z _ _ ∙ (rw (drop-cons d i 0 h) at k))

pub zeros_done : (d : List ℕ) (i : ℕ) (z : Bool) {all : Bool} → length d ≤ i → z && every (λ x. eqb x 0) (drop i d) ≡ all → z ≡ all
unfolding every
zeros_done d i z h k = sym (and-true z) ∙ (rw (drop_of_length-le d h) at k)

pub ruleset emptying = (rules, zeros_turn, zeros_done)
