-- Tests of the numbers of a part of the room: by the part itself, and one after the other. Assumes nothing.
use Prim.Native.Nat.{ℕ, ◌+◌, ◌-◌, ◌≤◌}
use native.Mathlib.Omega.{arith}
use mathlib.Core.Path.{◌≡◌, refl}
use mathlib.Core.Bool.{Bool}
use mathlib.Core.List.{List, [], ◌∷◌}
use lib.ListN.{length, take, drop}
use Rattle.std.specs.List.{list_all, list_any}
use Rattle.refusal.specs.Lists.{every, some}
use Rattle.look_modes.specs.Modes.{numbers}
use Rattle.look_modes.proofs.Numbers.{numbers_part}

every_all : (p : ℕ → Bool) (l : List ℕ) → every p l ≡ list_all p l
unfolding every
every_all p [] = refl
every_all p (x ∷ l) = rw (every_all p l)

some_any : (p : ℕ → Bool) (l : List ℕ) → some p l ≡ list_any p l
unfolding some
some_any p [] = refl
some_any p (x ∷ l) = rw (some_any p l)

module _ (p : ℕ → Bool) (w : List ℕ) (at n : ℕ) (h : at + n ≤ length w) where
  pub every_part : every p (numbers w n at) ≡ list_all p (take (at + n - at) (drop at w))
  every_part = let e : at + n - at ≡ n = omega arith in rw (e, numbers_part w n at h) (every_all p (take n (drop at w)))

  pub some_part : some p (numbers w n at) ≡ list_any p (take (at + n - at) (drop at w))
  some_part = let e : at + n - at ≡ n = omega arith in rw (e, numbers_part w n at h) (some_any p (take n (drop at w)))
