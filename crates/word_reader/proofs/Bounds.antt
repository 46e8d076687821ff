-- What is read lies within the words, and a record of which each part has a size ends where the sizes say. Assumes nothing.
use Prim.Native.Nat.{ℕ, zero, suc, ◌+◌, ◌*◌, ◌-◌, ◌<◌, ◌≤◌}
use native.Mathlib.Nat.{suc-mul, zero-mul}
use native.Mathlib.Omega.{arith}
use mathlib.Core.Path.{◌≡◌, refl}
use mathlib.Core.Bool.{Bool, true, false}
use mathlib.Core.List.{List, [], ◌∷◌}
use lib.Dec.{ltb, leb, eqb}
use lib.ListN.{length, get_or, take, drop}
use borrow.Author.Tests.{ltb-true, leb-true}
use Rattle.refusal.specs.Said.{SHORT}
use Rattle.refusal.specs.Lists.{pick}
use Rattle.run_ranges.specs.declared.AsciiRanges.{AsciiRanges}
use Rattle.run_shape.specs.declared.AsciiRun.{AsciiRun}
use Rattle.run_shape.specs.Shape.{none, any, until, Got, refused, held}
use Rattle.run_shape.specs.Words.{read_at, size_of, short_run, ranges_run, or_field, kind_of}
use Rattle.std.specs.Prelude.{Option, Some, None, Ok, Err}
use Rattle.word_reader.specs.Parse as parse
use Rattle.word_reader.specs.Parse.{Place, and_then, word, fields, block, many, section, both}
use Rattle.word_reader.specs.Records.{after_run, mode_at, state_at, run_at, ascii_at, range_at, wide_at, triple_at, accept_at}
use Rattle.word_reader.specs.Records.{escape_at, context_at, good_context, config_at, continuation_at}

-- Parts

-- a test that refuses where it fails has held
held_test : (b : Bool) (x : Place) (n q p : ℕ) → pick b x (parse.refused n q) ≡ Ok p → (b ≡ true) × (x ≡ Ok p)
held_test true x n q p e = (refl, e)
held_test false x n q p e = let z : ◌≡◌ {A = ℕ} 0 1 = cc in absurd (omega arith)

pub word_in : (w : List ℕ) (at p : ℕ) (k : ℕ → Place) → word w at k ≡ Ok p → (at < length w) × (k (get_or w at 0) ≡ Ok p)
unfolding word
word_in w at p k e = let i = held_test (ltb at (length w)) _ _ _ p e in (ltb-true _ _ i.0, i.1)

pub fields_in : (t : ℕ → Bool) (ts : List (ℕ → Bool)) (w : List ℕ) (at p : ℕ) → fields (t ∷ ts) w at ≡ Ok p → (p ≡ at + length (t ∷ ts)) × (p ≤ length w)
unfolding fields
fields_in t [] w at p e =
    let i = word_in w at p _ e in
    let j = held_test (t (get_or w at 0)) _ _ _ p i.1 in
    let q : at + 1 ≡ p = let z = j.1 in cc in
    (omega arith, omega arith)
fields_in t (u ∷ us) w at p e =
    let i = word_in w at p _ e in
    let j = held_test (t (get_or w at 0)) _ _ _ p i.1 in
    let r = fields_in u us w (at + 1) p j.1 in
    (omega arith, r.1)

pub block_in : (n : ℕ) (good : List ℕ → Bool) (w : List ℕ) (at p : ℕ) → block n good w at ≡ Ok p → (p ≡ at + n) × (p ≤ length w)
unfolding block
block_in n good w at p e =
    let i = held_test (leb (at + n) (length w)) _ _ _ p e in
    let j = held_test (good (take n (drop at w))) _ _ _ p i.1 in
    let q : at + n ≡ p = let z = j.1 in cc in
    let l : at + n ≤ length w = leb-true _ _ i.0 in
    (omega arith, omega arith)

pub section_in : (f : List ℕ → ℕ → Place) (w : List ℕ) (at p : ℕ) → section f w at ≡ Ok p → (at < length w) × (many (f w) (get_or w at 0) (at + 1) ≡ Ok p)
unfolding section
section_in f w at p e = word_in w at p _ e

pub record Joint (f g : List ℕ → ℕ → Place) (w : List ℕ) (at p : ℕ) : Type 0 where
  pub middle : ℕ
  pub first : f w at ≡ Ok middle
  pub second : g w middle ≡ Ok p

pub both_in : (f g : List ℕ → ℕ → Place) (w : List ℕ) (at p : ℕ) → both f g w at ≡ Ok p → Joint f g w at p
unfolding both and_then
both_in f g w at p e = go (f w at) refl e
  where
    go : (x : Place) → f w at ≡ x → and_then x (g w) ≡ Ok p → Joint f g w at p
    go (Ok q) u v = record { middle = q; first = u; second = v }
    go (Err r) u v = let z : ◌≡◌ {A = ℕ} 0 1 = cc in absurd (omega arith)

-- Records, one behind the other

-- a reader that goes on by m words or more, and stays within n
abbrev pub Within : ℕ → ℕ → (ℕ → Place) → Type 0
Within n m f = (a p : ℕ) → f a ≡ Ok p → (a + m ≤ p) × (p ≤ n)

-- a reader that goes on by m words, and stays within n
abbrev pub Sized : ℕ → ℕ → (ℕ → Place) → Type 0
Sized n m f = (a p : ℕ) → f a ≡ Ok p → (p ≡ a + m) × (p ≤ n)

module _ (n m : ℕ) (f : ℕ → Place) where
  pub many_in : Within n m f → (c at p : ℕ) → at ≤ n → many f c at ≡ Ok p → (at + c * m ≤ p) × (p ≤ n)
  unfolding many and_then
  many_in within zero at p h e = let q : at ≡ p = cc in (omega (arith, zero-mul m), omega arith)
  many_in within (suc c) at p h e = go (f at) refl (many_in within c) e
    where
      go : (g : Place) → f at ≡ g → ((a q : ℕ) → a ≤ n → many f c a ≡ Ok q → (a + c * m ≤ q) × (q ≤ n)) → and_then g (many f c) ≡ Ok p
          → (at + suc c * m ≤ p) × (p ≤ n)
      go (Ok q) u rec v = let i = within at q u in let r = rec q p i.1 v in (omega (arith, suc-mul c m), r.1)
      go (Err r) u rec v = let z : ◌≡◌ {A = ℕ} 0 1 = cc in absurd (omega arith)

  pub many-sized : Sized n m f → (c at p : ℕ) → at ≤ n → many f c at ≡ Ok p → (p ≡ at + c * m) × (p ≤ n)
  unfolding many and_then
  many-sized sized zero at p h e = let q : at ≡ p = cc in (omega (arith, zero-mul m), omega arith)
  many-sized sized (suc c) at p h e = go (f at) refl (many-sized sized c) e
    where
      go : (g : Place) → f at ≡ g → ((a q : ℕ) → a ≤ n → many f c a ≡ Ok q → (q ≡ a + c * m) × (q ≤ n)) → and_then g (many f c) ≡ Ok p
          → (p ≡ at + suc c * m) × (p ≤ n)
      go (Ok q) u rec v = let i = sized at q u in let r = rec q p i.1 v in (omega (arith, suc-mul c m), r.1)
      go (Err r) u rec v = let z : ◌≡◌ {A = ℕ} 0 1 = cc in absurd (omega arith)

-- a section has its count, and at least as many words behind it as it counts
pub counted_in : (f : List ℕ → ℕ → Place) (w : List ℕ) → Within (length w) 1 (f w) → (at p : ℕ) → section f w at ≡ Ok p
    → (at + 1 + get_or w at 0 ≤ p) × (p ≤ length w)
counted_in f w within at p e =
    let i = section_in f w at p e in
    let r = many_in (length w) 1 (f w) within (get_or w at 0) (at + 1) p (omega arith) i.1 in
    (omega (arith, r), r.1)

-- The records of a table

-- an until-run has one word
until_one : (es : List ℕ) → size_of (held (until es)) ≡ 1
unfolding held
until_one [] = refl
until_one (a ∷ []) = refl
until_one (a ∷ b ∷ []) = refl
until_one (a ∷ b ∷ c ∷ []) = refl
until_one (a ∷ b ∷ c ∷ d ∷ es) = refl

-- what is got, where it is a run, has so many words
abbrev Words : ℕ → Got → Type 0
Words n (Ok r) = size_of r ≡ n
Words n (Err r) = Unit {0}

or_field_lem : (n at : ℕ) (b : Bool) (r : AsciiRun) → size_of r ≡ n → Words n (or_field at b r)
unfolding or_field
or_field_lem n at true r e = e
or_field_lem n at false r e = tt

either : (n : ℕ) (b : Bool) (g h : Got) → Words n g → Words n h → Words n (pick b g h)
either n true g h u v = u
either n false g h u v = v

short_words : (at kind : ℕ) (bytes : List ℕ) → Words 1 (short_run at kind bytes)
unfolding short_run held
short_words at kind bytes =
    either 1 (eqb kind 0) _ _ (or_field_lem 1 at _ (held none) refl)
    (either 1 (eqb kind 1) _ _ (or_field_lem 1 at _ (held any) refl)
    (either 1 (leb kind 4) _ _ (or_field_lem 1 at _ (held (until (take (kind - 1) bytes))) (until_one (take (kind - 1) bytes))) tt))

ranges_words : (at : ℕ) (r : Option AsciiRanges) → Words 3 (ranges_run at r)
ranges_words at (Some r) = refl
ranges_words at None = tt

after_run_lem : (n at : ℕ) (g : Got) (p : ℕ) → Words n g → after_run at g ≡ Ok p → p ≡ at + n
after_run_lem n at (Ok r) p h e = let q : at + size_of r ≡ p = cc in omega arith
after_run_lem n at (Err r) p h e = let z : ◌≡◌ {A = ℕ} 0 1 = cc in absurd (omega arith)

pub run_in_lem : (w : List ℕ) → Within (length w) 1 (run_at w)
unfolding read_at
run_in_lem w a p e = go (ltb a (length w)) (eqb (kind_of (get_or w a 0)) 5) (leb (a + 3) (length w)) _ _ refl refl (ranges_words a _) (short_words a _ _) e
  where
    go : (b c d : Bool) (g h : Got) → ltb a (length w) ≡ b → leb (a + 3) (length w) ≡ d → Words 3 g → Words 1 h
        → after_run a (pick b (pick c (pick d g (refused SHORT (length w))) h) (refused SHORT (length w))) ≡ Ok p → (a + 1 ≤ p) × (p ≤ length w)
    go true true true g h u v x y e =
        let q : p ≡ a + 3 = after_run_lem 3 a g p x e in
        let l : a + 3 ≤ length w = leb-true _ _ v in
        (omega arith, omega arith)
    go true true false g h u v x y e = let z : ◌≡◌ {A = ℕ} 0 1 = cc in absurd (omega arith)
    go true false d g h u v x y e =
        let q : p ≡ a + 1 = after_run_lem 1 a h p y e in
        let l : a < length w = ltb-true _ _ u in
        (omega arith, omega arith)
    go false c d g h u v x y e = let z : ◌≡◌ {A = ℕ} 0 1 = cc in absurd (omega arith)

triple_sized : (w : List ℕ) → Sized (length w) 3 (triple_at w)
triple_sized w a p e = fields_in _ _ w a p e

range-sized : (w : List ℕ) → Sized (length w) 3 (range_at w)
range-sized w a p e = fields_in _ _ w a p e

context_sized : (w : List ℕ) → Sized (length w) 3 (context_at w)
context_sized w a p e = block_in 3 good_context w a p e

-- a section of records of three words
threes : (f : List ℕ → ℕ → Place) (w : List ℕ) → Sized (length w) 3 (f w) → (at p : ℕ) → section f w at ≡ Ok p
    → (p ≡ at + 1 + get_or w at 0 * 3) × (p ≤ length w)
threes f w sized at p e = let i = section_in f w at p e in many-sized (length w) 3 (f w) sized (get_or w at 0) (at + 1) p (omega arith) i.1

pub mode_in_lem : (w : List ℕ) → Within (length w) 1 (mode_at w)
mode_in_lem w a p e = let r = fields_in _ _ w a p e in (omega arith, r.1)

pub state_in : (w : List ℕ) → Within (length w) 1 (state_at w)
state_in w a p e = let r = fields_in _ _ w a p e in (omega arith, r.1)

pub ascii_in_lem : (w : List ℕ) → Within (length w) 1 (ascii_at w)
ascii_in_lem w a p e = let r = block_in 64 _ w a p e in (omega arith, r.1)

pub wide_in_lem : (w : List ℕ) → Within (length w) 1 (wide_at w)
wide_in_lem w a p e = let r = threes range_at w (range-sized w) a p e in (omega arith, r.1)

pub accept-sized : (w : List ℕ) (at p : ℕ) → accept_at w at ≡ Ok p → (p ≡ at + 3 + get_or w (at + 2) 0 * 3) × (p ≤ length w)
accept-sized w at p e =
    let j = both_in _ (section triple_at) w at p e in
    let f = fields_in _ _ w at j.middle j.first in
    let m : j.middle ≡ at + 2 = f.0 in
    let r = threes triple_at w (triple_sized w) (at + 2) p (rw (← m) j.second) in
    (omega arith, r.1)

pub accept_in : (w : List ℕ) → Within (length w) 1 (accept_at w)
accept_in w a p e = let r = accept-sized w a p e in (omega arith, r.1)

pub escape_in_lem : (w : List ℕ) → Within (length w) 1 (escape_at w)
escape_in_lem w a p e =
    let j = both_in _ (section triple_at) w a p e in
    let f = fields_in _ _ w a j.middle j.first in
    let r = threes triple_at w (triple_sized w) j.middle p j.second in
    (omega arith, r.1)

pub config_sized : (w : List ℕ) (at p : ℕ) → config_at w at ≡ Ok p → (p ≡ at + 6 + get_or w (at + 5) 0 * 3) × (p ≤ length w)
config_sized w at p e =
    let j = both_in _ (section triple_at) w at p e in
    let f = fields_in _ _ w at j.middle j.first in
    let m : j.middle ≡ at + 5 = f.0 in
    let r = threes triple_at w (triple_sized w) (at + 5) p (rw (← m) j.second) in
    (omega arith, r.1)

pub config_in : (w : List ℕ) → Within (length w) 1 (config_at w)
config_in w a p e = let r = config_sized w a p e in (omega arith, r.1)

-- the configs of a continuation stand behind its contexts
pub configs_behind : (w : List ℕ) (at p : ℕ) → continuation_at w at ≡ Ok p → section config_at w (at + (get_or w at 0 * 3 + 1)) ≡ Ok p
configs_behind w at p e =
    let j = both_in (section context_at) (section config_at) w at p e in
    let r = threes context_at w (context_sized w) at j.middle j.first in
    let m : j.middle ≡ at + (get_or w at 0 * 3 + 1) = omega (arith, r.0) in
    rw (← m) j.second

pub continuation_in : (w : List ℕ) → Within (length w) 1 (continuation_at w)
continuation_in w a p e =
    let r = counted_in config_at w (config_in w) _ p (configs_behind w a p e) in
    (omega (arith, r.0), r.1)
