-- The laws of a state's run: where it lies. Assumes nothing.
use Prim.Native.Nat.{ℕ, ◌≤◌}
use native.Mathlib.Omega.{arith}
use mathlib.Core.Path.{◌≡◌}
use mathlib.Core.List.{List}
use lib.ListN.{length, take, length-take}
use borrow.Author.Rules.{rules}
use Rattle.room_find.proofs.Records.{oflist}

-- a run that is read from its section
pub taken : (n : ℕ) (w : List ℕ) → n ≤ length w → n ≡ length (take n w)
taken n w h = let e = length-take n w in omega arith

pub ruleset reading = (rules, taken, oflist)
