-- What the two calls answer and leave in the pool, once for both kinds of row: w is the pool, n how many rows stand in it, row the one that is
-- interned. Assumes nothing.
use Prim.Native.Nat.{ℕ, zero, suc, ◌+◌, ◌*◌, ◌-◌, ◌/◌, ◌<◌, ◌≤◌, min}
use native.Mathlib.Omega.{arith}
use mathlib.Core.Path.{◌≡◌, refl, sym, ap, ap₂, ◌∙◌}
use mathlib.Core.Bool.{Bool, true, false}
use mathlib.Core.List.{List, ◌∷◌}
use lib.ListN.{length, get_or, set, length-set}
use borrow.Author.Rules.{rules}
use borrow.Author.Tests.{lt-ltb, le-ltb, le-leb, lt-leb, eq-eqb, ne_eqb}
use Rattle.refusal.specs.Lists.{pick, first_equal}
use Rattle.std.proofs.lemmas.Option.{none-some}
use Rattle.refusal.specs.Said.{Said, ok, no_by, no, FIELD, ROOM, NOT-TABLE}
use Rattle.refusal.specs.Fixed.{NONE}
use borrow.Rule.Slice.PartMut.{mid_of, put_mid}
use Rattle.buffer.specs.Over.{over, lay}
use Rattle.buffer.proofs.Overs.{copied}
use Rattle.std.specs.Prelude.{ltb, Option, Some, None, Result, Ok, Err}
use Rattle.refusal.specs.declared.Refusal.{Refusal}
use Rattle.pool_rows.specs.Pools.{Kind, ascii, wide, standing, rows_from, after_rows, in_threes, good, countable, Outcome, found}
use Rattle.pool_rows.specs.Pools.{append, first_in, equal_in, find_or_append, intern, said, Interns}
use Rattle.pool_rows.proofs.Rows.{threes_length, laid-part, stored-part}

-- ascii rows end at a multiple of their size
ascii_after : (w : List ℕ) (n at : ℕ) → after_rows ascii w n at ≡ at + n * 128
unfolding after_rows
ascii_after w zero at = omega arith
ascii_after w (suc n) at = ascii_after w n (at + 128) ∙ (omega arith)

pub ascii_end : (w : List ℕ) (n : ℕ) → n * 128 ≡ after_rows ascii w n 0
ascii_end w n = omega (arith, ascii_after w n 0)

-- A row that is appended, or has no room

module _ (k : Kind) (w : List ℕ) (n : ℕ) (row : List ℕ) {end : ℕ} (b : end ≡ after_rows k w n 0) where
  pub append-room : {r : Result ℕ Refusal} → length w < end + length (standing k row) → said r ≡ no ROOM 0 → Interns r w w (append k w n row)
  unfolding append
  append-room h e =
      let m : length w < after_rows k w n 0 + length (standing k row) = omega arith in
      rw (lt-ltb _ _ m) (record { says = e; leaves = refl })

  pub append_put : {new : List ℕ} → end + length (standing k row) ≤ length w → new ≡ lay end (standing k row) w → Interns (Ok n) w new (append k w n row)
  unfolding append
  append_put h p =
      let m : after_rows k w n 0 + length (standing k row) ≤ length w = omega arith in
      rw (le-ltb _ _ m, ← b) (record { says = refl; leaves = p })

-- An equal row is found, or none is

module _ (k : Kind) (w : List ℕ) (n : ℕ) (row : List ℕ) {i : ℕ} (e : i ≡ first_in k w n row) where
  pub equal_some : i < n → Some i ≡ equal_in k w n row
  equal_some h = rw (← e, lt-ltb i n h)

  pub equal_none : n ≤ i → None ≡ equal_in k w n row
  equal_none h = rw (← e, le-ltb i n h)

found_by : (t : Bool) (f i : ℕ) (o : Outcome) → pick t (Some f) None ≡ Some i → pick t (found f) o ≡ found i
found_by true f i o e = let z : f ≡ i = cc in ap found z
found_by false f i o e = absurd (none-some i e)

none_by : (t : Bool) (f : ℕ) (o : Outcome) → pick t (Some f) None ≡ None → pick t (found f) o ≡ o
none_by true f o e = absurd (none-some f (sym e))
none_by false f o e = refl

module _ (k : Kind) (w : List ℕ) (n : ℕ) (row : List ℕ) {r : Option ℕ} (e : r ≡ equal_in k w n row) where
  pub find_there : {i : ℕ} → r ≡ Some i → Interns (Ok i) w w (find_or_append k w n row)
  unfolding find_or_append
  find_there {i} h = rw (found_by (ltb (first_in k w n row) n) (first_in k w n row) i (append k w n row) (sym e ∙ h)) (record { says = refl; leaves = refl })

  pub find_none : {x : Result ℕ Refusal} {out : List ℕ} → r ≡ None → Interns x w out (append k w n row) → Interns x w out (find_or_append k w n row)
  unfolding find_or_append
  find_none h a = rw (none_by (ltb (first_in k w n row) n) (first_in k w n row) (append k w n row) (sym e ∙ h)) a

-- The order of the refusals

module _ (k : Kind) (w : List ℕ) (n : ℕ) (row : List ℕ) where
  pub intern-outside : {r : Result ℕ Refusal} → length w < after_rows k w n 0 → said r ≡ no NOT-TABLE 0 → Interns r w w (intern k w n row)
  unfolding intern
  intern-outside h e = rw (lt-ltb (length w) (after_rows k w n 0) h) (record { says = e; leaves = refl })

  module _ (h : after_rows k w n 0 ≤ length w) where
    pub intern_field : {r : Result ℕ Refusal} → good k row ≡ false → said r ≡ no FIELD 0 → Interns r w w (intern k w n row)
    unfolding intern
    intern_field g e = rw (le-ltb (length w) (after_rows k w n 0) h, g) (record { says = e; leaves = refl })

    pub intern-many : {r : Result ℕ Refusal} → good k row ≡ true → countable k row ≡ false → said r ≡ no ROOM 0 → Interns r w w (intern k w n row)
    unfolding intern
    intern-many g m e = rw (le-ltb (length w) (after_rows k w n 0) h, g, m) (record { says = e; leaves = refl })

    pub intern_into : {r : Result ℕ Refusal} {out : List ℕ} → good k row ≡ true → countable k row ≡ true → Interns r w out (find_or_append k w n row) →
        Interns r w out (intern k w n row)
    unfolding intern
    intern_into g m a = rw (le-ltb (length w) (after_rows k w n 0) h, g, m) a

-- Ascii rows, by the tests that are made

module _ (w : List ℕ) (n : ℕ) where
  pub ascii_within : n * 128 ≤ length w → after_rows ascii w n 0 ≤ length w
  ascii_within h = omega (arith, ascii_end w n)

  module _ (row : List ℕ) where
    pub ascii_room : {r : Result ℕ Refusal} → n * 128 ≤ length w → length row ≡ 128 → length w - n * 128 < 128 → said r ≡ no ROOM 0 →
        Interns r w w (append ascii w n row)
    ascii_room h l t e = append-room ascii w n row (ascii_end w n) (omega arith) e

    pub ascii_put : {m : ℕ} {xs : List ℕ} → n * 128 ≤ length w → length row ≡ 128 → 128 ≤ length w - n * 128 → m ≡ 128 → xs ≡ over row (mid_of (n * 128) m w) →
        Interns (Ok n) w (put_mid (n * 128) m w xs) (append ascii w n row)
    ascii_put {m} {xs} h l t e o =
        let c : xs ≡ row = copied (n * 128) m row w (omega arith) (omega arith) o in
        append_put ascii w n row (ascii_end w n) (omega arith)
        (laid-part (n * 128) m w xs (omega (arith, ap length c)) (omega arith) ∙ ap (λ (ys : List ℕ). lay (n * 128) ys w) c)

    pub ascii_outside : {r : Result ℕ Refusal} → length w / 128 < n → said r ≡ no NOT-TABLE 0 → Interns r w w (intern ascii w n row)
    ascii_outside h e = intern-outside ascii w n row (omega (arith, ascii_end w n)) e

    pub ascii_field : {r : Result ℕ Refusal} → n ≤ length w / 128 → (length row ≡ 128 → ⊥) → said r ≡ no FIELD 0 → Interns r w w (intern ascii w n row)
    ascii_field h l e = intern_field ascii w n row (omega (arith, ascii_end w n)) (ne_eqb (length row) 128 l) e

    pub ascii_into : {r : Result ℕ Refusal} {out : List ℕ} → n ≤ length w / 128 → length row ≡ 128 → Interns r w out (find_or_append ascii w n row) →
        Interns r w out (intern ascii w n row)
    ascii_into h l a = intern_into ascii w n row (omega (arith, ascii_end w n)) (eq-eqb (length row) 128 l) refl a

pub ruleset appending-ascii = (rules, ascii_room, ascii_put)

pub ruleset answering-ascii = (rules, find_there, find_none, ascii_within, ascii_outside, ascii_field, ascii_into)

-- Wide rows: the place behind them is known, or past the pool

module _ (w : List ℕ) (n : ℕ) (row : List ℕ) where
  module _ {end : ℕ} (b : end ≡ after_rows wide w n 0) where
    pub wide_room : {r : Result ℕ Refusal} → end ≤ length w → length w - end ≤ length row → said r ≡ no ROOM 0 → Interns r w w (append wide w n row)
    wide_room h t e = append-room wide w n row b (omega arith) e

    pub wide_put : {x m : ℕ} {xs : List ℕ} → x ≡ length row / 3 → end ≤ length w → length row < length w - end → m ≡ length row → xs ≡ over row (mid_of (end + 1) m (set w end x)) →
        Interns (Ok n) w (put_mid (end + 1) m (set w end x) xs) (append wide w n row)
    wide_put {x} {m} {xs} q h t e o =
        let c : xs ≡ row = copied (end + 1) m row (set w end x) (sym e) (omega (arith, length-set w end x)) o in
        append_put wide w n row b (omega arith)
        (stored-part end m x w xs (e ∙ sym (ap length c)) (omega arith) ∙ ap₂ (λ (y : ℕ) (ys : List ℕ). lay end (y ∷ ys) w) q c)

    pub wide_fits : end ≤ length w → after_rows wide w n 0 ≤ length w
    wide_fits h = omega arith

  module _ {x i : ℕ} (e : i ≡ first_equal (x ∷ row) (rows_from wide w n 0)) (q : x ≡ length row / 3) where
    counted : i ≡ first_in wide w n row
    counted = e ∙ ap (λ (m : ℕ). first_equal (m ∷ row) (rows_from wide w n 0)) q

    pub wide_some : i < n → Some i ≡ equal_in wide w n row
    wide_some h = equal_some wide w n row counted h

    pub wide_none : n ≤ i → None ≡ equal_in wide w n row
    wide_none h = equal_none wide w n row counted h

  module _ {end : ℕ} (b : min (1 + length w) end ≡ min (1 + length w) (after_rows wide w n 0)) where
    pub wide_outside : {r : Result ℕ Refusal} → length w < end → said r ≡ no NOT-TABLE 0 → Interns r w w (intern wide w n row)
    wide_outside h e = intern-outside wide w n row (omega arith) e

    module _ (h : end ≤ length w) where
      pub wide_ends : end ≡ after_rows wide w n 0
      wide_ends = omega arith

      module _ {t : Bool} (g : t ≡ in_threes row) where
        pub wide_field : {r : Result ℕ Refusal} → t ≡ false → said r ≡ no FIELD 0 → Interns r w w (intern wide w n row)
        wide_field f e = intern_field wide w n row (omega arith) (sym g ∙ f) e

        pub wide_many : {r : Result ℕ Refusal} → t ≡ true → 4294967295 < length row / 3 → said r ≡ no ROOM 0 → Interns r w w (intern wide w n row)
        wide_many f m e = intern-many wide w n row (omega arith) (sym g ∙ f) (lt-leb (length row / 3) NONE m) e

        pub wide_into : {r : Result ℕ Refusal} {out : List ℕ} → t ≡ true → length row / 3 ≤ 4294967295 → Interns r w out (find_or_append wide w n row) →
            Interns r w out (intern wide w n row)
        wide_into f m a = intern_into wide w n row (omega arith) (sym g ∙ f) (le-leb (length row / 3) NONE m) a

pub wide_length : (row : List ℕ) {t : Bool} → t ≡ in_threes row → t ≡ true → length row ≡ length row / 3 * 3
wide_length row g f = threes_length row (sym g ∙ f)

pub ruleset appending-wide = (rules, wide_room, wide_put)

pub ruleset answering-wide = (rules, find_there, find_none, wide_fits, wide_outside, wide_ends, wide_field, wide_many, wide_into, wide_length)

-- `said` takes no two answers to one: what it says gives the answer back
abbrev back : Said → Result ℕ Refusal
back (ok l) = Ok (get_or l 0 0)
back (no_by r) = Err r

back-said : (x : Result ℕ Refusal) → back (said x) ≡ x
back-said (Ok i) = refl
back-said (Err r) = refl

pub said_one : (x y : Result ℕ Refusal) → said x ≡ said y → x ≡ y
said_one x y e = sym (back-said x) ∙ ap back e ∙ back-said y
