-- The segments as ranges with their goals: the next, and those behind it. Assumes nothing.
use Prim.Native.Nat.{ℕ, zero, suc, ◌+◌, ◌*◌, ◌-◌, ◌≤◌, ◌<◌}
use mathlib.Core.Path.{◌≡◌, refl, ap}
use mathlib.Core.List.{List, [], ◌∷◌}
use native.Mathlib.Omega.{arith}
use lib.ListN.{length, get_or, take}
use Rattle.std.proofs.lemmas.List.{get_or-take}
use Rattle.row_build.specs.Aimed.{range_of, aimed}

module _ (goal : ℕ → ℕ) (segs ps : List ℕ) where
  pub length-aimed : (n k : ℕ) → length (aimed goal segs ps n k) ≡ n
  unfolding aimed
  length-aimed zero k = refl
  length-aimed (suc n) k = ap suc (length-aimed n (k + 1))

  module _ (count k : ℕ) where
    pub aimed_turn : k < count → aimed goal segs ps (count - k) k ≡
        range_of (get_or segs (2 * k) 0) (get_or segs (2 * k + 1) 0) (goal (get_or ps k 0)) ∷ aimed goal segs ps (count - (k + 1)) (k + 1)
    unfolding aimed
    aimed_turn h =
        let more : count - k ≡ suc (count - (k + 1)) = omega arith in
        ap (λ (n : ℕ). aimed goal segs ps n k) more

    pub aimed_done : count ≤ k → aimed goal segs ps (count - k) k ≡ []
    unfolding aimed
    aimed_done h =
        let none : count - k ≡ 0 = omega arith in
        ap (λ (n : ℕ). aimed goal segs ps n k) none

  -- no more of the segments and places is read than is told
  pub aimed_taken : (count n k : ℕ) → k + n ≤ count → aimed goal (take (2 * count) segs) (take count ps) n k ≡ aimed goal segs ps n k
  unfolding aimed
  aimed_taken count zero k h = refl
  aimed_taken count (suc n) k h =
      let low : get_or (take (2 * count) segs) (2 * k) 0 ≡ get_or segs (2 * k) 0 = get_or-take (2 * count) segs (2 * k) 0 (omega arith) in
      let high : get_or (take (2 * count) segs) (2 * k + 1) 0 ≡ get_or segs (2 * k + 1) 0 = get_or-take (2 * count) segs (2 * k + 1) 0 (omega arith) in
      let place : get_or (take count ps) k 0 ≡ get_or ps k 0 = get_or-take count ps k 0 (omega arith) in
      rw (low, high, place, aimed_taken count n (k + 1) (omega arith))

  pub aimed_all : (count : ℕ) → aimed goal segs ps count 0 ≡ aimed goal segs ps (count - 0) 0
  aimed_all count =
      let all : count ≡ count - 0 = omega arith in
      ap (λ (n : ℕ). aimed goal segs ps n 0) all
