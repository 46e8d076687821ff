-- The laws of the limits, by the tests that the code makes. Assumes nothing.
use Prim.Native.Nat.{ℕ, ◌<◌, ◌≤◌}
use native.Mathlib.Omega.{arith}
use mathlib.Core.Path.{◌≡◌, refl, ◌∙◌}
use mathlib.Core.List.{List}
use mathlib.Core.Bool.{Bool, true, false}
use borrow.Author.Rules.{rules}
use borrow.Author.Tests.{lt-ltb, le-ltb, ltb-false}
use lib.Dec.{ltb}
use lib.ListN.{length}
use Rattle.refusal.specs.Said.{LIMIT, ROOM}
use Rattle.refusal.specs.Lists.{pick}
use Rattle.word_reader.specs.declared.Sections.{Sections}
use Rattle.std.specs.Prelude.{Ok}
use Rattle.word_layout.specs.Layout.{Layout, unfound, layout_of}
use Rattle.word_layout.specs.Limits.{laid_out}

module _ (w : List ℕ) (n : ℕ) where
  pub no_room : n < 16384 → unfound ROOM 0 ≡ laid_out w n
  unfolding laid_out
  no_room h = rw (lt-ltb n 16384 h)

  pub past_limit : 16384 ≤ n → 8192 < length w → unfound LIMIT 8192 ≡ laid_out w n
  unfolding laid_out
  past_limit h k = rw (le-ltb n 16384 h, lt-ltb 8192 (length w) k)

  pub is_laid : {got : Layout} → 16384 ≤ n → length w ≤ 8192 → got ≡ layout_of w → got ≡ laid_out w n
  unfolding laid_out
  is_laid h k g = g ∙ (rw (le-ltb n 16384 h, le-ltb 8192 (length w) k))

-- what the tests are left with
pub ruleset limiting = (rules, no_room, past_limit, is_laid)

-- Sections that were found, within the limits

pub record Kept (w : List ℕ) (n : ℕ) (s : Sections) : Type 0 where
  pub room : 16384 ≤ n
  pub limit : length w ≤ 8192
  pub laid : layout_of w ≡ Ok s

pub kept : (w : List ℕ) (n : ℕ) {s : Sections} → laid_out w n ≡ Ok s → Kept w n s
unfolding laid_out
kept w n {s} h = go (ltb n 16384) (ltb 8192 (length w)) refl refl h
  where
    go : (p q : Bool) → ltb n 16384 ≡ p → ltb 8192 (length w) ≡ q → pick p (unfound ROOM 0) (pick q (unfound LIMIT 8192) (layout_of w)) ≡ Ok s → Kept w n s
    go true q i j k = let z : ◌≡◌ {A = ℕ} 0 1 = cc in absurd (omega arith)
    go false true i j k = let z : ◌≡◌ {A = ℕ} 0 1 = cc in absurd (omega arith)
    go false false i j k = record { room = ltb-false n 16384 i; limit = ltb-false 8192 (length w) j; laid = k }
