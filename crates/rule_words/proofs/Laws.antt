-- The laws of the walks over records and words, by the tests that the code makes. `ok` is what a test answered,
-- and `all` what the whole walk gives: what is left, walked from here, always gives the same. Assumes nothing.
use Prim.Native.Nat.{ℕ, zero, suc, ◌+◌, ◌-◌, ◌<◌, ◌≤◌}
use native.Mathlib.Omega.{arith}
use mathlib.Core.Path.{◌≡◌, refl, sym, ap, ◌∙◌}
use mathlib.Core.List.{List}
use mathlib.Core.Bool.{Bool, true, false, ◌&&◌, and-false}
use lib.Dec.{eqb}
use lib.ListN.{length, get_or, get_or-eq_default}
use borrow.Author.Rules.{rules}
use borrow.Author.Tests.{eq-eqb, ne_eqb}
use Rattle.refusal.specs.Lists.{pick}
use Rattle.refusal.specs.declared.Refusal.{Refusal}
use Rattle.word_reader.specs.Parse.{Place}
use Rattle.std.specs.Prelude.{Ok, Err}
use Rattle.rule_words.specs.Rules.{every_from, every, every_in, numbered_in, walk, read_or, passing, passing_in, sized}

-- A word past the end is 0.

pub past_end : (w : List ℕ) (at : ℕ) → length w ≤ at → 0 ≡ get_or w at 0
past_end w at h = sym (get_or-eq_default w 0 h)

pub past_all : (w : List ℕ) (at skip : ℕ) → length w ≤ at → 0 ≡ get_or w (at + skip) 0
past_all w at skip h = past_end w (at + skip) (omega arith)

-- Each record of a list: the walk hands nothing on.
abbrev pub rest : (ℕ → Bool) → (ℕ → Place) → ℕ → ℕ → Bool
rest test f = walk (λ x p. test p) (λ x p. x) f 0

-- The law of every walk over n records of a fixed size, of which i are behind. `next` is what a record hands on.
module _ (test : ℕ → ℕ → Bool) (hand : ℕ → ℕ → ℕ) (size x n i here : ℕ) {all : Bool} (inv : walk test hand (sized size) x (n - i) here ≡ all) where
  abbrev one_less : i < n → n - i ≡ suc (n - (i + 1))
  one_less h = omega arith

  -- a record passed: go on behind it
  pub passed : {next : ℕ} {ok : Bool} → i < n → ok ≡ test x here → ok ≡ true → next ≡ hand x here → walk test hand (sized size) next (n - (i + 1)) (here + size) ≡ all
  unfolding walk every_from
  passed h o y k = rw k (rw (one_less h, ← o, y) at inv)

  -- it failed: so do all
  pub failed : {ok : Bool} → i < n → ok ≡ test x here → ok ≡ false → false ≡ all
  unfolding walk
  failed h o y = rw (one_less h, ← o, y) at inv

  -- none is left
  pub judged_all : n ≤ i → true ≡ all
  unfolding walk
  judged_all h = let e : n - i ≡ 0 = omega arith in rw e at inv

pub ruleset striding = (rules, failed, judged_all)

pub rest_first : (read : List ℕ → ℕ → Place) (test : ℕ → Bool) (w : List ℕ) (at : ℕ) → rest test (read w) (get_or w at 0 - 0) (at + 1) ≡ every_in read test w at
unfolding every_in every
rest_first read test w at = let e : get_or w at 0 - 0 ≡ get_or w at 0 = omega arith in rw e

-- The law of every walk over n records that a reader finds, of which i are behind.
module _ (test : ℕ → Bool) (f : ℕ → Place) (n i here : ℕ) {all : Bool} (inv : rest test f (n - i) here ≡ all) where
  abbrev one_less-read : i < n → n - i ≡ suc (n - (i + 1))
  one_less-read h = omega arith

  -- a record was read, and passed: go on behind it
  pub read_on : {p : ℕ} → i < n → Ok p ≡ f here → true ≡ test here → rest test f (n - (i + 1)) p ≡ all
  unfolding walk every_from
  read_on h g o = rw (one_less-read h, ← g, ← o) at inv

  -- it failed, or none is there
  pub read_failed : i < n → false ≡ test here → false ≡ all
  unfolding walk every_from
  read_failed h o = rw (one_less-read h, ← o) at inv

  pub read_lost : {r : Refusal} → i < n → Err r ≡ f here → false ≡ all
  unfolding walk every_from
  read_lost h g = sym (and-false (test here)) ∙ (rw (one_less-read h, ← g) at inv)

  -- none is left
  pub read_all : n ≤ i → true ≡ all
  unfolding walk
  read_all h = let e : n - i ≡ 0 = omega arith in rw e at inv

-- The law of every loop that counts the records that pass. `got` is what the record's reader answered, `all` what the whole loop does.
module _ (test : ℕ → ℕ → Bool) (f : ℕ → Place) where
  pub from_first : (n at : ℕ) → passing test f 0 (n - 0) at ≡ passing test f 0 n at
  from_first n at = let e : n - 0 ≡ n = omega arith in rw e

  module _ (i n here : ℕ) {all : ℕ} (inv : passing test f i (n - i) here ≡ all) where
    abbrev one_more_lem : i < n → n - i ≡ suc (n - (i + 1))
    one_more_lem h = omega arith

    -- a record passed: go on behind it
    pub one_passed : {p : ℕ} → i < n → Ok p ≡ f here → true ≡ test i here → passing test f (i + 1) (n - (i + 1)) p ≡ all
    unfolding passing read_or
    one_passed h g o = rw (one_more_lem h, ← g, ← o) at inv

    -- it failed, or none is there
    pub one_failed : {p : ℕ} → i < n → Ok p ≡ f here → false ≡ test i here → i ≡ all
    unfolding passing read_or
    one_failed h g o = rw (one_more_lem h, ← g, ← o) at inv

    pub one_lost : {r : Refusal} → i < n → Err r ≡ f here → i ≡ all
    unfolding passing read_or
    one_lost h g = rw (one_more_lem h, ← g) at inv

    -- none is left
    pub all_passed : n ≤ i → i ≤ n → n ≡ all
    unfolding passing
    all_passed h k = let e : n - i ≡ 0 = omega arith in let f : n ≡ i = omega arith in f ∙ (rw e at inv)

pub ruleset counting = (rules, from_first, one_passed, one_failed, one_lost, all_passed)

-- All pass exactly where as many do as there are.
walk-passing : (test : ℕ → ℕ → Bool) (f : ℕ → Place) (i n at : ℕ) → walk test (λ i p. i + 1) f i n at ≡ eqb (passing test f i n at) (i + n)
unfolding walk passing every_from read_or
walk-passing test f i zero at = sym (eq-eqb i (i + 0) (omega arith))
walk-passing test f i (suc n) at = go (test i at) (f at) (walk-passing test f (i + 1) n)
  where
    none : false ≡ eqb i (i + suc n)
    none = sym (ne_eqb i (i + suc n) (λ e. omega arith))

    go : (b : Bool) (o : Place) → ((p : ℕ) → walk test (λ i p. i + 1) f (i + 1) n p ≡ eqb (passing test f (i + 1) n p) (i + 1 + n))
        → (b && every_from o (walk test (λ i p. i + 1) f (i + 1) n)) ≡ eqb (read_or i o (λ p. pick b (passing test f (i + 1) n p) i)) (i + suc n)
    go true (Ok p) h = let e : i + suc n ≡ i + 1 + n = omega arith in rw e (h p)
    go true (Err r) h = none
    go false (Ok p) h = none
    go false (Err r) h = none

-- a test that asks for no number judges alike whatever is handed on
walk_any : (test : ℕ → Bool) (f : ℕ → Place) (g h : ℕ → ℕ → ℕ) (x y n at : ℕ) → walk (λ x p. test p) g f x n at ≡ walk (λ x p. test p) h f y n at
unfolding walk every_from
walk_any test f g h x y zero at = refl
walk_any test f g h x y (suc n) at = go (f at) (walk_any test f g h (g x at) (h y at) n)
  where
    go : (o : Place) → ((p : ℕ) → walk (λ x p. test p) g f (g x at) n p ≡ walk (λ x p. test p) h f (h y at) n p)
        → (test at && every_from o (walk (λ x p. test p) g f (g x at) n)) ≡ (test at && every_from o (walk (λ x p. test p) h f (h y at) n))
    go (Ok p) k = ap (λ b. test at && b) (k p)
    go (Err r) k = refl

pub in_section : (read : List ℕ → ℕ → Place) (test : ℕ → Bool) (w : List ℕ) (at : ℕ) → numbered_in read (λ i. test) w at ≡ every_in read test w at
unfolding every_in every
in_section read test w at = walk_any test (read w) _ _ 0 0 (get_or w at 0) (at + 1)

-- A section that starts past the end lists nothing; of another each record passes where as many do as it lists.
module _ (read : List ℕ → ℕ → Place) (w : List ℕ) (at : ℕ) where
  pub passing_past : (test : ℕ → ℕ → Bool) → length w ≤ at → 0 ≡ passing_in read test w at
  unfolding passing
  passing_past test h = rw (← past_end w at h)

  pub numbered-passes : (test : ℕ → ℕ → Bool) {k : ℕ} → k ≡ passing_in read test w at → eqb k (get_or w at 0) ≡ numbered_in read test w at
  numbered-passes test e =
      let z : 0 + get_or w at 0 ≡ get_or w at 0 = omega arith in
      rw e (sym (rw z at (walk-passing test (read w) 0 (get_or w at 0) (at + 1))))

  pub section_past : (test : ℕ → Bool) → length w ≤ at → true ≡ every_in read test w at
  unfolding walk every_in every
  section_past test h = rw (← past_end w at h)
