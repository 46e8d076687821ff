-- The laws of the lists of places: what is found behind the lists that are left is what is found behind all of them. Assumes nothing.
use Prim.Native.Nat.{ℕ, suc, ◌+◌, ◌*◌, ◌-◌, ◌<◌, ◌≤◌}
use native.Mathlib.Omega.{arith}
use mathlib.Core.Path.{◌≡◌, ◌∙◌}
use mathlib.Core.List.{List}
use lib.ListN.{length, get_or}
use borrow.Author.Rules.{rules}
use borrow.Author.Tests.{lt-ltb, le-ltb}
use Rattle.std.specs.Prelude.{Result, Err}
use Rattle.room_find.specs.declared.Missing.{Missing}
use Rattle.room_find.specs.declared.Missing.TheVariants.{Outside}
use Rattle.room_find.specs.Room.{section_of, past_lists}

module _ (w : List ℕ) (f : ℕ → Result ℕ Missing) (all : Result ℕ Missing) (count : ℕ) where
  -- lists are left before the one that is looked for: the next is list j, at `list`
  pub record Left (j list : ℕ) : Type 0 where
    pub same : past_lists w (count - j) j list f ≡ all
    pub low : list ≤ 9 + (j + 1) * 4294967295

  -- the count of the next one's section lies in the room, or outside
  module _ (j list : ℕ) {k : ℕ} (z : Left j list) (h : j < count) (e : k ≡ section_of j) where
    one_less : count - j ≡ suc (count - (j + 1))
    one_less = omega arith

    pub list_passed : get_or w k 0 < length w → get_or w (get_or w k 0) 0 ≤ 4294967295 → Left (j + 1) (list + get_or w (get_or w k 0) 0)
    unfolding past_lists
    list_passed l o =
        let b : get_or w (section_of j) 0 < length w = rw (← e) l in
        record { same = rw e (rw (lt-ltb _ _ b) at (rw one_less at z.same)); low = omega (arith, z.low) }

    pub list_outside : length w ≤ get_or w k 0 → Err Outside ≡ all
    unfolding past_lists
    list_outside l =
        let b : length w ≤ get_or w (section_of j) 0 = rw (← e) l in
        rw (le-ltb _ _ b) at (rw one_less at z.same)

  -- none is left
  pub lists_done : (j list : ℕ) {r : Result ℕ Missing} → Left j list → count ≤ j → r ≡ f list → r ≡ all
  unfolding past_lists
  lists_done j list z h e = let d : count - j ≡ 0 = omega arith in e ∙ (rw d at z.same)

pub ruleset passing = (rules, list_passed, list_outside, lists_done)
