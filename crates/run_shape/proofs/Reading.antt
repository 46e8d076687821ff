-- The reading of a run's words, by the tests that the code makes in turn. `r` is the code's answer. Assumes nothing.
use Prim.Native.Nat.{ℕ, ◌+◌, ◌-◌, ◌/◌, ◌%◌, ◌≤◌, ◌<◌}
use native.Mathlib.Omega.{arith}
use mathlib.Core.Path.{◌≡◌, refl, sym, ◌∙◌}
use mathlib.Core.Bool.{Bool, true, false, ◌&&◌, and-true, and_assoc}
use mathlib.Core.List.{List, [], ◌∷◌}
use lib.Dec.{eqb, leb, ltb}
use lib.ListN.{length, get_or, take}
use borrow.Author.Rules.{rules}
use borrow.Author.Tests.{eq-eqb, ne_eqb, le-leb, lt-leb, lt-ltb, le-ltb, eqb-true}
use Rattle.refusal.specs.Said.{SHORT, FIELD}
use Rattle.refusal.specs.Lists.{pick, every}
use Rattle.std.specs.Prelude.{Option, Some, None, Ok, Err}
use Rattle.run_ranges.specs.declared.AsciiRanges.{AsciiRanges}
use Rattle.run_ranges.specs.declared.PackedRanges.{PackedRanges}
use Rattle.run_ranges.specs.Ranges.{ranges_of_run}
use Rattle.run_shape.specs.declared.AsciiRun.{AsciiRun}
use Rattle.run_shape.specs.declared.AsciiRun.TheVariants as runs
use Rattle.run_shape.specs.Shape.{until, held, Got, refused}
use Rattle.run_shape.specs.Words.{or_field, short_run, kind_of, bytes_of, ranges_run, packed_at, read_at, size_of, alone_in, read_alone}

-- A run of one word, kind by kind.
module _ (at word : ℕ) {r : Got} where
  pub short_none : r ≡ or_field at (eqb (word / 256 % 256) 0 && eqb (word / 65536 % 256) 0 && eqb (word / 16777216) 0) runs.None
      → word % 256 ≡ 0 → r ≡ short_run at (kind_of word) (bytes_of word)
  unfolding short_run every held
  short_none h e = h ∙ (rw e (simp (and-true, and_assoc)))

  pub short-any : r ≡ or_field at (eqb (word / 256 % 256) 0 && eqb (word / 65536 % 256) 0 && eqb (word / 16777216) 0) runs.Any
      → word % 256 ≡ 1 → r ≡ short_run at (kind_of word) (bytes_of word)
  unfolding short_run every held
  short-any h e = h ∙ (rw e (simp (and-true, and_assoc)))

  pub short_one : r ≡ or_field at (ltb (word / 256 % 256) 128 && eqb (word / 65536 % 256) 0 && eqb (word / 16777216) 0)
      (runs.Until1 (word / 256 % 256)) → word % 256 ≡ 2 → r ≡ short_run at (kind_of word) (bytes_of word)
  unfolding short_run every held
  short_one h e = h ∙ (rw e (simp (and-true, and_assoc)))

  pub short-two : r ≡ or_field at (ltb (word / 256 % 256) 128 && ltb (word / 65536 % 256) 128 && eqb (word / 16777216) 0)
      (runs.Until2 (word / 256 % 256) (word / 65536 % 256)) → word % 256 ≡ 3 → r ≡ short_run at (kind_of word) (bytes_of word)
  unfolding short_run every held
  short-two h e = h ∙ (rw e (simp (and-true, and_assoc)))

  pub short_three : r ≡ or_field at (ltb (word / 256 % 256) 128 && ltb (word / 65536 % 256) 128 && ltb (word / 16777216) 128)
      (runs.Until3 (word / 256 % 256) (word / 65536 % 256) (word / 16777216)) → word % 256 ≡ 4
      → r ≡ short_run at (kind_of word) (bytes_of word)
  unfolding short_run every held
  short_three h e = h ∙ (rw e (simp (and-true, and_assoc)))

  pub short_other : r ≡ refused FIELD at → (word % 256 ≡ 0 → ⊥) → (word % 256 ≡ 1 → ⊥) → (word % 256 ≡ 2 → ⊥) → (word % 256 ≡ 3 → ⊥)
      → (word % 256 ≡ 4 → ⊥) → r ≡ short_run at (kind_of word) (bytes_of word)
  unfolding short_run
  short_other h n0 n1 n2 n3 n4 =
      let more : 4 < word % 256 = omega arith in
      h ∙ (rw (ne_eqb (word % 256) 0 n0, ne_eqb (word % 256) 1 n1, lt-leb (word % 256) 4 more))

by_pick : (P : Got → Type 0) (t : Bool) {x y : Got} → P x → P y → P (pick t x y)
by_pick P true a b = a
by_pick P false a b = b

-- A run at a place.
module _ (w : List ℕ) (at : ℕ) {r : Got} where
  pub read_end : r ≡ refused SHORT (length w) → length w ≤ at → r ≡ read_at w at
  unfolding read_at
  read_end h l = h ∙ (rw (le-ltb at (length w) l))

  pub read_short : r ≡ short_run at (kind_of (get_or w at 0)) (bytes_of (get_or w at 0)) → at < length w
      → (get_or w at 0 % 256 ≡ 5 → ⊥) → r ≡ read_at w at
  unfolding read_at
  read_short h l n = h ∙ (rw (lt-ltb at (length w) l, ne_eqb (get_or w at 0 % 256) 5 n))

  pub read_cut : r ≡ refused SHORT (length w) → at < length w → get_or w at 0 % 256 ≡ 5 → length w - at < 3 → r ≡ read_at w at
  unfolding read_at
  read_cut h l e s =
      let m : length w < at + 3 = omega arith in
      h ∙ (rw (lt-ltb at (length w) l, eq-eqb (get_or w at 0 % 256) 5 e, lt-leb (at + 3) (length w) m))

  pub read_ranges : r ≡ ranges_run at (ranges_of_run (get_or w at 0) (record { first = get_or w (at + 1) 0; second = get_or w (at + 2) 0 })) → at < length w
      → get_or w at 0 % 256 ≡ 5 → 3 ≤ length w - at → r ≡ read_at w at
  unfolding read_at
  read_ranges h l e s =
      let m : at + 3 ≤ length w = omega arith in
      let two : at + 1 + 1 ≡ at + 2 = omega arith in
      h ∙ (rw (lt-ltb at (length w) l, eq-eqb (get_or w at 0 % 256) 5 e, le-leb (at + 3) (length w) m, two))

-- A run of n words, or FIELD at a place.
abbrev Sized : ℕ → ℕ → Got → Type 0
Sized n at (Ok q) = size_of q ≡ n
Sized n at (Err r) = Err r ≡ refused FIELD at

until_size : (es : List ℕ) → size_of (held (until es)) ≡ 1
unfolding held
until_size [] = refl
until_size (a ∷ []) = refl
until_size (a ∷ b ∷ []) = refl
until_size (a ∷ b ∷ c ∷ []) = refl
until_size (a ∷ b ∷ c ∷ d ∷ es) = refl

field_size : (at : ℕ) (t : Bool) (q : AsciiRun) → size_of q ≡ 1 → Sized 1 at (or_field at t q)
unfolding or_field
field_size at t q h = by_pick (Sized 1 at) t h refl

short_size : (at kind : ℕ) (bytes : List ℕ) → Sized 1 at (short_run at kind bytes)
unfolding short_run held
short_size at kind bytes =
    by_pick (Sized 1 at) (eqb kind 0) (field_size at _ runs.None refl)
    (by_pick (Sized 1 at) (eqb kind 1) (field_size at _ runs.Any refl)
    (by_pick (Sized 1 at) (leb kind 4) (field_size at _ _ (until_size (take (kind - 1) bytes))) refl))

ranges_size : (at : ℕ) (q : Option AsciiRanges) → Sized 3 at (ranges_run at q)
ranges_size at (Some r) = refl
ranges_size at None = refl

-- A run alone, by how many words there are: a run of so many stays, and any other is FIELD.
module _ (w : List ℕ) where
  alone_same : (g : Got) → Sized (length w) 0 g → alone_in w g ≡ g
  alone_same (Ok q) h = rw (eq-eqb (length w) (size_of q) (sym h))
  alone_same (Err r) h = sym h

  alone_not : (n : ℕ) (g : Got) → Sized n 0 g → (length w ≡ n → ⊥) → alone_in w g ≡ refused FIELD 0
  alone_not n (Ok q) h l = rw (ne_eqb (length w) (size_of q) (λ e. l (e ∙ h)))
  alone_not n (Err r) h l = refl

-- the two readings of a list; in the one that its length leaves, a kind of the other is FIELD
abbrev short : List ℕ → Got
short w = short_run 0 (kind_of (get_or w 0 0)) (bytes_of (get_or w 0 0))

abbrev ranged : List ℕ → Got
ranged w = ranges_run 0 (ranges_of_run (get_or w 0 0) (packed_at w 1))

short_five : (kind : ℕ) (bytes : List ℕ) → kind ≡ 5 → short_run 0 kind bytes ≡ refused FIELD 0
unfolding short_run
short_five kind bytes e = rw e

ranges_other : (kind : ℕ) (q : PackedRanges) → eqb (kind_of kind) 5 ≡ false → ranges_run 0 (ranges_of_run kind q) ≡ refused FIELD 0
unfolding ranges_of_run
ranges_other kind q e = rw e

module _ (w : List ℕ) where
  short_alone : (t : Bool) → eqb (kind_of (get_or w 0 0)) 5 ≡ t → length w ≡ 1 → short w ≡ read_alone w
  unfolding read_at
  short_alone true e l = rw (l, e) (short_five _ _ (eqb-true _ _ e))
  short_alone false e l = rw (l, e) (sym (alone_same w (short w) (rw l (short_size 0 _ _))))

  ranges_alone : (t : Bool) → eqb (kind_of (get_or w 0 0)) 5 ≡ t → length w ≡ 3 → ranged w ≡ read_alone w
  unfolding read_at
  ranges_alone true e l = rw (l, e) (sym (alone_same w (ranged w) (rw l (ranges_size 0 _))))
  ranges_alone false e l = rw (l, e) (ranges_other _ _ e ∙ sym (alone_not w 1 (short w) (short_size 0 _ _) (λ x. omega arith)))

  none_alone : (length w ≡ 1 → ⊥) → (length w ≡ 3 → ⊥) → read_alone w ≡ refused FIELD 0
  unfolding read_at
  none_alone a b =
      let P : Got → Type 0 = λ g. alone_in w g ≡ refused FIELD 0 in
      let one : P (short w) = alone_not w 1 (short w) (short_size 0 _ _) a in
      let three : P (ranged w) = alone_not w 3 (ranged w) (ranges_size 0 _) b in
      by_pick P (ltb 0 (length w)) (by_pick P (eqb (kind_of (get_or w 0 0)) 5) (by_pick P (leb 3 (length w)) three refl) one) refl

  module _ {r : Got} where
    pub alone_short : r ≡ short w → length w ≡ 1 → r ≡ read_alone w
    alone_short h l = h ∙ short_alone _ refl l

    pub alone_ranges : r ≡ ranged w → length w ≡ 3 → r ≡ read_alone w
    alone_ranges h l = h ∙ ranges_alone _ refl l

    pub alone_none : r ≡ refused FIELD 0 → (length w ≡ 1 → ⊥) → (length w ≡ 3 → ⊥) → r ≡ read_alone w
    alone_none h a b = h ∙ sym (none_alone a b)

pub ruleset reading = (
  rules,
  short_none,
  short-any,
  short_one,
  short-two,
  short_three,
  short_other,
  read_end,
  read_short,
  read_cut,
  read_ranges,
  alone_short,
  alone_ranges,
  alone_none,
)
