-- The laws of what writes a table's numbers: what is to come, written from here, gives what all of it gives. Assumes nothing.
use Prim.Native.Nat.{ℕ, suc, ◌+◌, ◌-◌, ◌<◌, ◌≤◌}
use native.Mathlib.Numerals.{add-one}
use native.Mathlib.Omega.{arith}
use mathlib.Core.Path.{◌≡◌, refl, sym, ◌∙◌}
use mathlib.Core.List.{List, [], ◌∷◌, ◌++◌}
use borrow.Author.Rules.{rules}
use borrow.Rule.Slice.PartMut.{mid_of, put_mid}
use lib.ListN.{length, get_or, drop, set, length-set, length-drop, drop_of_length-le}
use lib.Seq.{drop-cons}
use Rattle.std.specs.Prelude.{map, Ok, Err}
use Rattle.std.proofs.lemmas.List.{length-map}
use Rattle.refusal.specs.declared.Refusal.{Refusal}
use Rattle.refusal.specs.Lists.{each}
use Rattle.word_reader.specs.Parse.{Place}
use Rattle.word_sections.specs.declared.Kind.{Kind}
use Rattle.word_sections.specs.Kinds.{record_at}
use Rattle.word_sections.proofs.Laws.{record_in_lem}
use Rattle.buffer.specs.Over.{over, lay, Put}
use Rattle.buffer.proofs.Overs.{over-front, copied}
use Rattle.buffer.proofs.Going.{Going, going_start, going_done, going_room, going_turn, going_place, going_put, put_one}
use Rattle.room_fill.specs.Room.{starts, starts_from, renewed, in_room, shifted, placed}

-- Words that are copied

pub copied_put : (w : List ℕ) (n : ℕ) (d : List ℕ) {new : List ℕ} → n + length w ≤ length d → new ≡ over w (mid_of n (n + length w - n) d)
    → Put w n d (n + length w) (put_mid n (n + length w - n) d new)
unfolding lay
copied_put w n d {new} h e =
    let k : n + length w - n ≡ length w = omega arith in
    let c : new ≡ w = copied n (n + length w - n) w d (sym k) (omega arith) e in
    record { next = refl; is = rw (c, k, over-front w (drop n d) (omega (arith, length-drop n d))) }

-- A list of numbers that f gives, stored one by one

module _ (f : ℕ → ℕ) (xs : List ℕ) (n : ℕ) (old : List ℕ) (i : ℕ) (out : List ℕ) where
  mapped_open : i < length xs → map f (drop i xs) ≡ f (get_or xs i 0) ∷ map f (drop (i + 1) xs)
  mapped_open h = rw (add-one, drop-cons xs i 0 h)

  pub mapped_place : i < length xs → Going (map f xs) n old (map f (drop i xs)) (n + i) out → n + i < length out
  mapped_place h g = going_place (map f xs) n old (map f (drop (i + 1) xs)) (n + i) out (f (get_or xs i 0)) (rw (mapped_open h) at g)

  pub mapped_turn : {x : ℕ} → i < length xs → x ≡ f (get_or xs i 0) → Going (map f xs) n old (map f (drop i xs)) (n + i) out
      → Going (map f xs) n old (map f (drop (i + 1) xs)) (n + (i + 1)) (set out (n + i) x)
  mapped_turn h e g =
      let j : n + (i + 1) ≡ n + i + 1 = omega arith in
      rw (e, j) (going_put (map f xs) n old (map f (drop (i + 1) xs)) (n + i) out (f (get_or xs i 0)) (rw (mapped_open h) at g))

  pub mapped_done : length xs ≤ i → Going (map f xs) n old (map f (drop i xs)) (n + i) out → Put (map f xs) n old (n + length xs) out
  mapped_done h g =
      let p = going_done (map f xs) n old (rw (drop_of_length-le xs h) at g) in
      record { next = omega (arith, length-map xs f); is = p.is }

pub mapped_start : (f : ℕ → ℕ) (xs : List ℕ) (n : ℕ) (old : List ℕ) → n + length xs ≤ length old
    → Going (map f xs) n old (map f (drop 0 xs)) (n + 0) old
mapped_start f xs n old h = let i : n + 0 ≡ n = omega arith in rw i (going_start (map f xs) n old (omega (arith, length-map xs f)))

-- Records: f writes for the record that g reads; count - i of them are left

module _ (f : ℕ → List ℕ) (g : ℕ → Place) (count i here : ℕ) where
  each_open : {p : ℕ} {got : Place} → i < count → got ≡ g here → got ≡ Ok p
      → each f (starts g (count - i) here) ≡ f here ++ each f (starts g (count - (i + 1)) p)
  unfolding each starts starts_from
  each_open h e k = let j : count - i ≡ suc (count - (i + 1)) = omega arith in rw (j, ← e, k)

  each_stop : {r : Refusal} {got : Place} → i < count → got ≡ g here → got ≡ Err r → each f (starts g (count - i) here) ≡ []
  unfolding each starts starts_from
  each_stop h e k = let j : count - i ≡ suc (count - (i + 1)) = omega arith in rw (j, ← e, k)

  each_done : count ≤ i → each f (starts g (count - i) here) ≡ []
  unfolding each starts
  each_done h = let j : count - i ≡ 0 = omega arith in rw j

  module _ {xs : List ℕ} {n : ℕ} {old : List ℕ} {m : ℕ} {out : List ℕ} (k : Going xs n old (each f (starts g (count - i) here)) m out) where
    module _ {p : ℕ} {got : Place} (h : i < count) (e : got ≡ g here) (j : got ≡ Ok p) where
      pub record_room : m + length (f here) ≤ length out
      record_room = going_room xs n old (each f (starts g (count - (i + 1)) p)) m out (f here) (rw (each_open h e j) at k)

      pub record_turn : {r : ℕ} {new : List ℕ} → Put (f here) m out r new → Going xs n old (each f (starts g (count - (i + 1)) p)) r new
      record_turn t = going_turn xs n old (each f (starts g (count - (i + 1)) p)) m out (f here) t (rw (each_open h e j) at k)

    record_stop : {r : Refusal} {got : Place} → i < count → got ≡ g here → got ≡ Err r → Put xs n old m out
    record_stop h e j = going_done xs n old (rw (each_stop h e j) at k)

    pub record_none : {got : Place} → i < count → got ≡ g here → ((p : ℕ) → got ≡ Ok p → ⊥) → Put xs n old m out
    record_none {got} h e q = go got refl
      where
        go : (o : Place) → got ≡ o → Put xs n old m out
        go (Ok p) z = absurd (q p z)
        go (Err r) z = record_stop h e z

    pub record_done : count ≤ i → Put xs n old m out
    record_done h = going_done xs n old (rw (each_done h) at k)

-- a place for each record
module _ (g : ℕ → Place) (count i here : ℕ) {xs : List ℕ} {n : ℕ} {old : List ℕ} {m : ℕ} {out : List ℕ} {p : ℕ} {got : Place}
    (k : Going xs n old (each shifted (starts g (count - i) here)) m out) (h : i < count) (e : got ≡ g here) (j : got ≡ Ok p) where
  pub place_room : m < length out
  place_room = omega (arith, record_room shifted g count i here k h e j)

  pub place_turn : {x : ℕ} → x ≡ in_room here → Going xs n old (each shifted (starts g (count - (i + 1)) p)) (m + 1) (set out m x)
  place_turn o = rw o (going_put xs n old (each shifted (starts g (count - (i + 1)) p)) m out (in_room here) (rw (each_open shifted g count i here h e j) at k))

-- a record that was read starts within the words
pub record_limit : (k : Kind) (w : List ℕ) (here : ℕ) {p : ℕ} {got : Place} → got ≡ record_at k w here → got ≡ Ok p → length w ≤ 8192 → here ≤ 8192
record_limit k w here {p} e i h = omega (arith, record_in_lem k w here p (sym e ∙ i))

-- A section: its count, and its records

module _ (read : List ℕ → ℕ → Place) (w : List ℕ) (at n : ℕ) (d : List ℕ) where
  module _ (f : List ℕ → ℕ → List ℕ) (h : n + length (renewed read f w at) ≤ length d) where
    pub section_first : n < length d
    unfolding renewed
    section_first = omega arith

    -- the records behind the count
    pub section_start : Going (each (f w) (starts (read w) (get_or w at 0) (at + 1))) (n + 1) (set d n (get_or w at 0))
        (each (f w) (starts (read w) (get_or w at 0 - 0) (at + 1))) (n + 1) (set d n (get_or w at 0))
    unfolding renewed
    section_start =
        let i : get_or w at 0 - 0 ≡ get_or w at 0 = omega arith in
        rw i (going_start (each (f w) (starts (read w) (get_or w at 0) (at + 1))) (n + 1) (set d n (get_or w at 0)) (omega (arith, length-set d n (get_or w at 0))))

    pub section_put : {r : ℕ} {new : List ℕ} → Put (each (f w) (starts (read w) (get_or w at 0) (at + 1))) (n + 1) (set d n (get_or w at 0)) r new
        → Put (renewed read f w at) n d r new
    unfolding renewed
    section_put p = put_one (get_or w at 0) _ n d p (omega arith)

  -- all places are to come
  pub places_start : n + length (placed read w at) ≤ length d → Going (placed read w at) n d (each shifted (starts (read w) (get_or w at 0 - 0) (at + 1))) n d
  unfolding placed
  places_start h = let i : get_or w at 0 - 0 ≡ get_or w at 0 = omega arith in rw i (going_start (placed read w at) n d h)

-- what the loops are left with
pub ruleset storing = (rules, mapped_start, mapped_place, mapped_turn, mapped_done)

pub ruleset recording = (rules, section_first, section_start, section_put, record_room, record_turn, record_none, record_done)

pub ruleset placing = (rules, places_start, place_room, place_turn, record_none, record_done, record_limit)
