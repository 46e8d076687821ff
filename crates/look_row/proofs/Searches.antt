-- The laws of a search: the ranges that are left, from here, give what all of them give. Assumes nothing.
use Prim.Native.Nat.{ℕ, zero, suc, ◌+◌, ◌*◌, ◌-◌, ◌<◌, ◌≤◌}
use native.Mathlib.Nat.{not-suc-le-zero}
use native.Mathlib.Numerals.{sub-one}
use native.Mathlib.Omega.{arith}
use mathlib.Core.Path.{◌≡◌}
use mathlib.Core.Bool.{Bool, true, false}
use mathlib.Core.List.{List}
use lib.Dec.{ltb, leb}
use lib.ListN.{length, get_or}
use borrow.Author.Rules.{rules}
use borrow.Author.Tests.{le-leb, lt-leb, lt-ltb}
use Rattle.std.specs.Prelude.{Option, Some, None, Ok, Err}
use Rattle.refusal.specs.Lists.{pick}
use Rattle.room_find.specs.declared.Missing.{Missing}
use Rattle.room_find.specs.declared.Missing.TheVariants.{Outside}
use Rattle.look_row.specs.Search.{found, searched}

module _ (w : List ℕ) (x : ℕ) where
  -- the first range's high reaches x: its low does too, or passes it
  pub hit : (left here : ℕ) {all : Option ℕ} → 0 < left → x ≤ get_or w (here + 1) 0 → get_or w here 0 ≤ x → found w x left here ≡ all → Some (get_or w (here + 2) 0) ≡ all
  unfolding found
  hit zero here z h l i = absurd (not-suc-le-zero z)
  hit (suc n) here z h l i = simp (le-leb _ _ h, le-leb _ _ l) at i

  pub gap : (left here : ℕ) {all : Option ℕ} → 0 < left → x ≤ get_or w (here + 1) 0 → x < get_or w here 0 → found w x left here ≡ all → None ≡ all
  unfolding found
  gap zero here z h l i = absurd (not-suc-le-zero z)
  gap (suc n) here z h l i = simp (le-leb _ _ h, lt-leb _ _ l) at i

  -- it does not reach x: go on behind it
  pub past : (left here : ℕ) {all : Option ℕ} → 0 < left → get_or w (here + 1) 0 < x → found w x left here ≡ all → found w x (left - 1) (here + 3) ≡ all
  unfolding found
  past zero here z h i = absurd (not-suc-le-zero z)
  past (suc n) here z h i = rw sub-one (simp (lt-leb _ _ h) at i)

  -- none is left
  pub over : (left here : ℕ) {all : Option ℕ} → left ≤ 0 → found w x left here ≡ all → None ≡ all
  unfolding found
  over zero here z i = i
  over (suc n) here z i = absurd (not-suc-le-zero z)

  -- four do not reach x
  pub past_four : (left here : ℕ) {all : Option ℕ} → 3 < left → get_or w (here + 1) 0 < x → get_or w (here + 4) 0 < x → get_or w (here + 7) 0 < x →
      get_or w (here + 10) 0 < x →
      found w x left here ≡ all → found w x (left - 4) (here + 12) ≡ all
  past_four left here h a b c d i =
      let p₁ : here + 3 + 1 ≡ here + 4 = omega arith in
      let p₂ : here + 3 + 3 + 1 ≡ here + 7 = omega arith in
      let p₃ : here + 3 + 3 + 3 + 1 ≡ here + 10 = omega arith in
      let p₄ : here + 3 + 3 + 3 + 3 ≡ here + 12 = omega arith in
      let l₄ : left - 1 - 1 - 1 - 1 ≡ left - 4 = omega arith in
      let i₁ = past left here (omega arith) a i in
      let i₂ = past (left - 1) (here + 3) (omega arith) (rw p₁ b) i₁ in
      let i₃ = past (left - 1 - 1) (here + 3 + 3) (omega arith) (rw p₂ c) i₂ in
      let i₄ = past (left - 1 - 1 - 1) (here + 3 + 3 + 3) (omega arith) (rw p₃ d) i₃ in
      rw (l₄, p₄) at i₄

-- a row that lies in its section is searched
pub row-searched : (w : List ℕ) (at e x : ℕ) → e ≤ length w → at < e → get_or w at 0 * 3 + at < e → searched w at e x ≡ Ok (found w x (get_or w at 0) (at + 1))
unfolding searched
row-searched w at e x k h l = simp (le-leb _ _ k, lt-ltb _ _ h, lt-ltb _ _ l)

-- a search that gives nothing led outside: that no range is chosen is no refusal
pub row_missed : (w : List ℕ) (at e x : ℕ) {m : Missing} → searched w at e x ≡ Err m → m ≡ Outside
unfolding searched
row_missed w at e x {m} = go (leb e (length w)) (ltb at e) (ltb (get_or w at 0 * 3 + at) e) (found w x (get_or w at 0) (at + 1))
  where
    go : (a b c : Bool) (f : Option ℕ) → pick a (pick b (pick c (Ok f) (Err Outside)) (Err Outside)) (Err Outside) ≡ Err m → m ≡ Outside
    go true true true f h = cc
    go true true false f h = cc
    go true false c f h = cc
    go false b c f h = cc

-- what the loop by fours is left with
pub ruleset skipping = (rules, past_four)
