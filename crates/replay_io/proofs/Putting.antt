-- The law of a loop that puts numbers of k bytes at the front of a buffer: n of them, of which i stand. Assumes nothing.
use Rattle.std.proofs.Common.{◌≡◌, ℕ, zero, suc, ◌+◌, ◌-◌, ◌*◌, ◌<◌, ◌≤◌, List, ◌∷◌, length, drop, set, refl, subst, arith, drop-drop, rules}
use Rattle.buffer.specs.Over.{Put}
use Rattle.buffer.proofs.Going.{Going, going_start, going_done, going_place, going_put}
use Rattle.replay_io.specs.Bytes.{number, numbers}

-- there are n of them
pub numbers-many : (k n : ℕ) (s : List ℕ) → length (numbers k n s) ≡ n
unfolding numbers
numbers-many k zero s = refl
numbers-many k (suc n) s = omega (arith, numbers-many k n (drop k s))

-- those that are left
unfoldable pub left : ℕ → ℕ → List ℕ → ℕ → List ℕ
left k n s i = numbers k (n - i) (drop (k * i) s)

module _ (k n : ℕ) (s : List ℕ) (i : ℕ) where
  left_open : i < n → left k n s i ≡ number k (drop (k * i) s) ∷ left k n s (i + 1)
  unfolding left numbers
  left_open h =
      let a : n - i ≡ suc (n - (i + 1)) = omega arith in
      let b : k * i + k ≡ k * (i + 1) = omega arith in
      rw (a, drop-drop k (k * i) s, b)

module _ (k n : ℕ) (s : List ℕ) {old : List ℕ} where
  pub put_start : n ≤ length old → Going (numbers k n s) 0 old (left k n s 0) 0 old
  unfolding left
  put_start h =
      let e : n - 0 ≡ n = omega arith in
      let z : k * 0 ≡ 0 = omega arith in
      rw (e, z) (going_start (numbers k n s) 0 old (omega (arith, numbers-many k n s)))

  module _ {i : ℕ} {out : List ℕ} where
    pub put_place : i < n → Going (numbers k n s) 0 old (left k n s i) i out → i < length out
    put_place h g = going_place (numbers k n s) 0 old (left k n s (i + 1)) i out (number k (drop (k * i) s)) (rw (left_open k n s i h) at g)

    pub put_turn : {x : ℕ} → x ≡ number k (drop (k * i) s) → i < n → Going (numbers k n s) 0 old (left k n s i) i out →
        Going (numbers k n s) 0 old (left k n s (i + 1)) (i + 1) (set out i x)
    put_turn e h g = rw e (going_put (numbers k n s) 0 old (left k n s (i + 1)) i out (number k (drop (k * i) s)) (rw (left_open k n s i h) at g))

    pub put_done : {m : ℕ} → n ≡ m → n ≤ i → i ≤ n → Going (numbers k n s) 0 old (left k n s i) i out → Put (numbers k m s) 0 old n out
    unfolding left numbers
    put_done {m} e h h' g =
        let z : n - i ≡ 0 = omega arith in
        let a : i ≡ n = omega arith in
        subst (λ r. Put (numbers k m s) 0 old r out) a (rw (← e) (going_done (numbers k n s) 0 old (rw z at g)))

    pub put_within : Going (numbers k n s) 0 old (left k n s i) i out → i ≤ length out
    put_within g = omega (arith, g.next, g.size, g.room)

-- what the loop is left with
pub ruleset putting = (rules, put_start, put_place, put_turn, put_done, put_within)
