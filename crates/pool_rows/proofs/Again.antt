-- What interning is for: a row that was appended is found by the next call, as the last of one row more. So what is appended is a row of the
-- pool, behind the others, and they are as they were. Stated once for both kinds. Assumes nothing.
use Prim.Native.Nat.{ℕ, zero, suc, ◌+◌, ◌/◌, ◌<◌, ◌≤◌}
use native.Mathlib.Omega.{arith}
use mathlib.Core.Path.{◌≡◌, refl, sym, ap, ◌∙◌}
use mathlib.Core.Bool.{Bool, true, false}
use mathlib.Core.List.{List, [], ◌∷◌, ◌++◌}
use lib.Dec.{ltb}
use lib.ListN.{length, take, drop, length-append, length-drop, take-append-drop, get_or-append}
use lib.Seq.{take-append-le, drop-append-le, take-append_seam, drop-append_seam, get_or-append_seam, length-take-le}
use borrow.Author.Tests.{eqb-true, lt-ltb, le-ltb}
use Rattle.refusal.proofs.Lists.{equal_same}
use Rattle.refusal.specs.Lists.{pick, same_list, first_equal}
use Rattle.buffer.specs.Over.{over, lay}
use Rattle.buffer.proofs.Overs.{over-front}
use Rattle.pool_rows.specs.Pools.{Kind, ascii, wide, standing, size_at, rows_from, after_rows, good, countable, found, first_in, find_or_append, intern}
use Rattle.pool_rows.proofs.Rows.{after_≥, threes_length}

-- Rows in the front p of a pool, whatever stands behind it

size_some : (k : Kind) (w : List ℕ) (at : ℕ) → 0 < size_at k w at
size_some ascii w at = omega arith
size_some wide w at = omega arith

size_same : (k : Kind) (p a b : List ℕ) (at : ℕ) → at < length p → size_at k (p ++ a) at ≡ size_at k (p ++ b) at
size_same ascii p a b at h = refl
size_same wide p a b at h = rw (get_or-append p a 0 at h, get_or-append p b 0 at h)

module _ (k : Kind) (p a b : List ℕ) where
  part_same : (at n : ℕ) → at + n ≤ length p → take n (drop at (p ++ a)) ≡ take n (drop at (p ++ b))
  part_same at n h =
      let d : at ≤ length p = omega arith in
      let l : n ≤ length (drop at p) = omega (arith, length-drop at p) in
      rw (drop-append-le at p a d, drop-append-le at p b d, take-append-le n (drop at p) a l, take-append-le n (drop at p) b l)

  front_same : (n at : ℕ) → after_rows k (p ++ b) n at ≤ length p →
      (rows_from k (p ++ a) n at ≡ rows_from k (p ++ b) n at) × (after_rows k (p ++ a) n at ≡ after_rows k (p ++ b) n at)
  unfolding rows_from after_rows
  front_same zero at h = (refl, refl)
  front_same (suc n) at h =
      let f : at + size_at k (p ++ b) at ≤ length p = omega (arith, after_≥ k (p ++ b) n (at + size_at k (p ++ b) at)) in
      let e : size_at k (p ++ a) at ≡ size_at k (p ++ b) at = size_same k p a b at (omega (arith, size_some k (p ++ b) at)) in
      let r = front_same n (at + size_at k (p ++ b) at) h in
      (rw (e, part_same at (size_at k (p ++ b) at) f, r.0), rw (e, r.1))

-- One row more is the one behind the others

module _ (k : Kind) (w : List ℕ) where
  rows_last : (n at : ℕ) → rows_from k w (suc n) at ≡ rows_from k w n at ++ (take (size_at k w (after_rows k w n at)) (drop (after_rows k w n at) w) ∷ [])
  unfolding rows_from after_rows
  rows_last zero at = refl
  rows_last (suc n) at = ap (λ (l : List (List ℕ)). take (size_at k w at) (drop at w) ∷ l) (rows_last n (at + size_at k w at))

  after_last : (n at : ℕ) → after_rows k w (suc n) at ≡ after_rows k w n at + size_at k w (after_rows k w n at)
  unfolding after_rows
  after_last zero at = refl
  after_last (suc n) at = after_last n (at + size_at k w at)

  rows_length : (n at : ℕ) → length (rows_from k w n at) ≡ n
  unfolding rows_from
  rows_length zero at = refl
  rows_length (suc n) at = ap suc (rows_length n (at + size_at k w at))

-- a row that equals none before it is found where it stands
first_last : (row : List ℕ) (rs : List (List ℕ)) → length rs ≤ first_equal row rs → first_equal row (rs ++ (row ∷ [])) ≡ length rs
unfolding first_equal
first_last row [] h = rw (equal_same row)
first_last row (r ∷ rs) h = cases (same_list r row) h (first_last row rs) where
  cases : (t : Bool) → suc (length rs) ≤ pick t 0 (suc (first_equal row rs)) → (length rs ≤ first_equal row rs → first_equal row (rs ++ (row ∷ [])) ≡ length rs) →
      pick t 0 (suc (first_equal row (rs ++ (row ∷ [])))) ≡ suc (length rs)
  cases true k r = absurd (omega arith)
  cases false k r = ap suc (r (omega arith))

-- A good row that is laid behind p has its own size there

size_laid : (k : Kind) (p row r : List ℕ) → good k row ≡ true → size_at k (p ++ (standing k row ++ r)) (length p) ≡ length (standing k row)
size_laid ascii p row r g = sym (eqb-true (length row) 128 g)
size_laid wide p row r g = rw (get_or-append_seam p (length row / 3) (row ++ r) 0) (omega (arith, threes_length row g))

module _ (k : Kind) (p q r : List ℕ) (n : ℕ) (row : List ℕ) (e : after_rows k (p ++ q) n 0 ≡ length p) (g : good k row ≡ true) where
  abbrev v : List ℕ
  v = p ++ (standing k row ++ r)

  laid_at : after_rows k v n 0 ≡ length p
  laid_at = (front_same k p (standing k row ++ r) q n 0 (omega arith)).1 ∙ e

  laid_end : after_rows k v (suc n) 0 ≡ length p + length (standing k row)
  laid_end = after_last k v n 0 ∙ rw laid_at (ap (λ (m : ℕ). length p + m) (size_laid k p row r g))

  laid_row : take (size_at k v (after_rows k v n 0)) (drop (after_rows k v n 0) v) ≡ standing k row
  laid_row = rw (laid_at, size_laid k p row r g, drop-append_seam p (standing k row ++ r)) (take-append_seam (standing k row) r)

  laid_first : n ≤ first_in k (p ++ q) n row → first_in k v (suc n) row ≡ n
  laid_first h =
      let l : length (rows_from k (p ++ q) n 0) ≡ n = rows_length k (p ++ q) n 0 in
      rw (rows_last k v n 0, laid_row, (front_same k p (standing k row ++ r) q n 0 (omega arith)).0)
      (first_last (standing k row) (rows_from k (p ++ q) n 0) (omega arith) ∙ l)

  laid_found : countable k row ≡ true → n ≤ first_in k (p ++ q) n row → intern k v (suc n) row ≡ found n
  unfolding intern find_or_append
  laid_found c h =
      let l : length v ≡ length p + (length (standing k row) + length r)
      = length-append p (standing k row ++ r) ∙ ap (λ (m : ℕ). length p + m) (length-append (standing k row) r) in
      let t : ltb (length v) (after_rows k v (suc n) 0) ≡ false = le-ltb (length v) (after_rows k v (suc n) 0) (omega (arith, laid_end)) in
      rw (t, g, c, laid_first h, lt-ltb n (suc n) (omega arith))

pub found_again : (k : Kind) (w : List ℕ) (n : ℕ) (row : List ℕ) → good k row ≡ true → countable k row ≡ true → n ≤ first_in k w n row →
    after_rows k w n 0 + length (standing k row) ≤ length w → intern k (lay (after_rows k w n 0) (standing k row) w) (suc n) row ≡ found n
unfolding lay
found_again k w n row g c h f =
    let b = after_rows k w n 0 in
    let s : take b w ++ drop b w ≡ w = take-append-drop b w in
    let l : length (take b w) ≡ b = length-take-le b w (omega arith) in
    let e : after_rows k (take b w ++ drop b w) n 0 ≡ length (take b w) = ap (λ (x : List ℕ). after_rows k x n 0) s ∙ sym l in
    let i : n ≤ first_in k (take b w ++ drop b w) n row = omega (arith, ap (λ (x : List ℕ). first_in k x n row) s) in
    let o : over (standing k row) (drop b w) ≡ standing k row ++ drop (length (standing k row)) (drop b w)
    = over-front (standing k row) (drop b w) (omega (arith, length-drop b w)) in
    rw o (laid_found k (take b w) (drop b w) (drop (length (standing k row)) (drop b w)) n row e g c i)
