-- The laws of numbers that are read one after the other. Assumes nothing.
use Prim.Native.Nat.{ℕ, zero, suc, ◌+◌, ◌-◌, ◌<◌, ◌≤◌}
use native.Mathlib.Nat.{not-suc-le-zero}
use native.Mathlib.Numerals.{sub-one}
use native.Mathlib.Omega.{arith}
use mathlib.Core.Path.{◌≡◌, refl, ap}
use mathlib.Core.List.{List, [], ◌∷◌}
use lib.ListN.{length, get_or, take, drop}
use Rattle.std.proofs.Common.{drop-cons}
use Rattle.look_modes.specs.Modes.{numbers}

pub numbers_open : (w : List ℕ) (left here : ℕ) → 0 < left → numbers w left here ≡ get_or w here 0 ∷ numbers w (left - 1) (here + 1)
unfolding numbers
numbers_open w zero here h = absurd (not-suc-le-zero h)
numbers_open w (suc n) here h = rw sub-one

pub numbers_done : (w : List ℕ) (left here : ℕ) → left ≤ 0 → numbers w left here ≡ []
unfolding numbers
numbers_done w zero here h = refl
numbers_done w (suc n) here h = absurd (not-suc-le-zero h)

pub numbers-length : (w : List ℕ) (n at : ℕ) → length (numbers w n at) ≡ n
unfolding numbers
numbers-length w zero at = refl
numbers-length w (suc n) at = ap suc (numbers-length w n (at + 1))

-- they are a part of the room
pub numbers_part : (w : List ℕ) (n at : ℕ) → at + n ≤ length w → numbers w n at ≡ take n (drop at w)
unfolding numbers
numbers_part w zero at h = refl
numbers_part w (suc n) at h =
    let l : at < length w = omega arith in
    let e : at + 1 ≡ suc at = omega arith in
    rw (numbers_part w n (at + 1) (omega arith), e, drop-cons w at 0)

pub part_is : (w : List ℕ) (n at : ℕ) → at + n ≤ length w → take (at + n - at) (drop at w) ≡ numbers w n at
part_is w n at h = let e : at + n - at ≡ n = omega arith in rw (e, numbers_part w n at h)
