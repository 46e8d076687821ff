-- The laws of writing a list over a part of another. Assumes nothing.
use mathlib.Core.Path.{◌≡◌, refl, sym, ap, ◌∙◌}
use mathlib.Core.List.{List, [], ◌∷◌, ◌++◌, append-nil, append_assoc}
use Prim.Native.Nat.{ℕ, zero, suc, ◌+◌, ◌-◌, ◌<◌, ◌≤◌, min}
use native.Mathlib.Nat.{not-suc-le-zero, le_of_suc-le-suc, add-zero}
use native.Mathlib.Numerals.{add-one}
use native.Mathlib.Omega.{arith}
use borrow.Author.Rules.{rules}
use borrow.Rule.Slice.PartMut.{mid_of, post_of, put_mid, same_len_mid}
use lib.ListN.{length, get_or, take, drop, set, replicate, length-append, length-take, length-drop, length-set, length-replicate, replicate-append-replicate}
use lib.Seq.{drop-length, drop-drop, length-take-le}
use Rattle.buffer.specs.Over.{over, lay, zeros, padded}

pub over-length : (xs d : List ℕ) → length (over xs d) ≡ length d
unfolding over
over-length [] d = refl
over-length (x ∷ xs) [] = refl
over-length (x ∷ xs) (y ∷ d) = ap suc (over-length xs d)

pub lay-length : (n : ℕ) (xs d : List ℕ) → length (lay n xs d) ≡ length d
unfolding lay
lay-length n xs d = omega (arith, length-append (take n d) (over xs (drop n d)), over-length xs (drop n d), length-take n d, length-drop n d)

-- what was written stands in front
pub over-front : (xs d : List ℕ) → length xs ≤ length d → over xs d ≡ xs ++ drop (length xs) d
unfolding over
over-front [] d h = refl
over-front (x ∷ xs) [] h = absurd (not-suc-le-zero h)
over-front (x ∷ xs) (y ∷ d) h = ap (λ (l : List ℕ). x ∷ l) (over-front xs d (le_of_suc-le-suc h))

-- The loop that copies, numbers of any width: those of xs before n are written over d

module _ {X : Type 0} where
  -- over all of as many
  pub over_all : (xs d : List X) → length xs ≡ length d → over xs d ≡ xs
  unfolding over
  over_all [] [] h = refl
  over_all [] (y ∷ d) h = absurd (omega arith)
  over_all (x ∷ xs) [] h = absurd (omega arith)
  over_all (x ∷ xs) (y ∷ d) h = ap (λ (l : List X). x ∷ l) (over_all xs d (omega arith))

  -- a part of k numbers from n on, over which as many were written
  pub copied : (n k : ℕ) (xs d : List X) {e : List X} → length xs ≡ k → n + k ≤ length d → e ≡ over xs (mid_of n k d) → e ≡ xs
  copied n k xs d l h i = let m : length (mid_of n k d) ≡ k = length-take-le k (drop n d) (omega (arith, length-drop n d)) in i ∙ over_all xs (mid_of n k d) (omega arith)

  over_put : (n : ℕ) (xs d : List X) {x : X} → n < length xs → n < length d → x ≡ get_or xs n x → set (over (take n xs) d) n x ≡ over (take (suc n) xs) d
  unfolding over
  over_put n [] d h k e = absurd (not-suc-le-zero h)
  over_put n (y ∷ xs) [] h k e = absurd (not-suc-le-zero k)
  over_put zero (y ∷ xs) (z ∷ d) h k e = ap (λ (x : X). x ∷ d) e
  over_put (suc n) (y ∷ xs) (z ∷ d) h k e = ap (λ (l : List X). y ∷ l) (over_put n xs d (le_of_suc-le-suc h) (le_of_suc-le-suc k) e)

  pub copy_start : (d : List X) → d ≡ over [] d
  unfolding over
  copy_start d = refl

  pub copy_turn : (n : ℕ) (xs d : List X) {x : X} {l : List X} → l ≡ over (take n xs) d → x ≡ get_or xs n x → n < min (length xs) (length d) →
      set l n x ≡ over (take (n + 1) xs) d
  copy_turn n xs d {x} i e h = rw (add-one n) (ap (λ (l : List X). set l n x) i ∙ over_put n xs d (omega arith) (omega arith) e)

  over_rest : (n : ℕ) (xs d : List X) → min (length xs) (length d) ≤ n → over (take n xs) d ≡ over xs d
  unfolding over
  over_rest zero [] d h = refl
  over_rest zero (x ∷ xs) [] h = refl
  over_rest zero (x ∷ xs) (y ∷ d) h = absurd (omega arith)
  over_rest (suc n) [] d h = refl
  over_rest (suc n) (x ∷ xs) [] h = refl
  over_rest (suc n) (x ∷ xs) (y ∷ d) h = ap (λ (l : List X). x ∷ l) (over_rest n xs d (omega arith))

  pub copy_done : (n : ℕ) (xs d : List X) {l : List X} → l ≡ over (take n xs) d → min (length xs) (length d) ≤ n → l ≡ over xs d
  copy_done n xs d i h = i ∙ over_rest n xs d h

pub ruleset copying = (rules, copy_start, copy_turn)

-- nothing laid changes nothing
pub lay-none : (n : ℕ) (d : List ℕ) → lay n [] d ≡ d
unfolding lay over
lay-none zero d = refl
lay-none (suc n) [] = refl
lay-none (suc n) (y ∷ d) = ap (λ (l : List ℕ). y ∷ l) (lay-none n d)

lay-suc : (n x : ℕ) (xs d : List ℕ) → n < length d → lay (suc n) xs (set d n x) ≡ lay n (x ∷ xs) d
unfolding lay over
lay-suc n x xs [] h = absurd (not-suc-le-zero h)
lay-suc zero x xs (y ∷ d) h = refl
lay-suc (suc n) x xs (y ∷ d) h = ap (λ (l : List ℕ). y ∷ l) (lay-suc n x xs d (le_of_suc-le-suc h))

-- one number stored is one laid
pub lay_put : (n x : ℕ) (xs d : List ℕ) → n < length d → lay (n + 1) xs (set d n x) ≡ lay n (x ∷ xs) d
lay_put n x xs d h = rw add-one (lay-suc n x xs d h)

-- laid behind what was laid
pub lay-lay : (n : ℕ) (xs ys d : List ℕ) → n + length xs ≤ length d → lay (n + length xs) ys (lay n xs d) ≡ lay n (xs ++ ys) d
lay-lay n [] ys d h = rw (lay-none, add-zero)
lay-lay n (x ∷ xs) ys d h =
    let l : n < length d = omega arith in
    let s : length (set d n x) ≡ length d = length-set d n x in
    let m : n + length (x ∷ xs) ≡ n + 1 + length xs = omega arith in
    ap (λ (k : ℕ). lay k ys (lay n (x ∷ xs) d)) m
    ∙ ap (λ (t : List ℕ). lay (n + 1 + length xs) ys t) (sym (lay_put n x xs d l))
    ∙ lay-lay (n + 1) xs ys (set d n x) (omega arith)
    ∙ lay_put n x (xs ++ ys) d l

-- written over zeros
over_zeros : (n : ℕ) (xs : List ℕ) → length xs ≤ n → over xs (zeros n) ≡ padded n xs
unfolding over padded
over_zeros n [] h = let e : n - 0 ≡ n = omega arith in rw e
over_zeros zero (x ∷ xs) h = absurd (not-suc-le-zero h)
over_zeros (suc n) (x ∷ xs) h =
    let e : suc n - suc (length xs) ≡ n - length xs = omega arith in
    rw e (ap (λ (l : List ℕ). x ∷ l) (over_zeros n xs (le_of_suc-le-suc h)))

pub lay-zeros : (n : ℕ) (xs : List ℕ) → length xs ≤ n → lay 0 xs (zeros n) ≡ padded n xs
unfolding lay
lay-zeros n xs h = over_zeros n xs h

-- The loops that make all numbers 0, of any width: those before n are z in l, the others as they were in d

module _ {X : Type 0} (z : X) where
  abbrev pub Clearing : List X → ℕ → List X → Type 0
  Clearing d n l = (l ≡ replicate n z ++ drop n d) × (length l ≡ length d) × (n ≤ length d)

  filled : (n : ℕ) (d : List X) → n < length d → set (replicate n z ++ drop n d) n z ≡ replicate (suc n) z ++ drop (suc n) d
  filled n [] h = absurd (not-suc-le-zero h)
  filled zero (x ∷ d) h = refl
  filled (suc n) (x ∷ d) h = ap (λ (l : List X). z ∷ l) (filled n d (le_of_suc-le-suc h))

  pub clear_turn : (n : ℕ) (d : List X) {l : List X} → n < length l → length l ≡ length d → l ≡ replicate n z ++ drop n d →
      set l n z ≡ replicate (n + 1) z ++ drop (n + 1) d
  clear_turn n d h k e = rw (add-one n) (ap (λ (l : List X). set l n z) e ∙ filled n d (omega (arith, h, k)))

  -- A part of k numbers from n on is made z, the numbers before it are

  seams : (n : ℕ) (ys : List X) → (take n (replicate n z ++ ys) ≡ replicate n z) × (drop n (replicate n z ++ ys) ≡ ys)
  seams zero ys = (refl, refl)
  seams (suc n) ys = (ap (λ (l : List X). z ∷ l) (seams n ys).0, (seams n ys).1)

  joined : (n k : ℕ) (ys : List X) → replicate n z ++ (replicate k z ++ ys) ≡ replicate (n + k) z ++ ys
  joined n k ys = sym (append_assoc (replicate n z) (replicate k z) ys) ∙ ap (λ (l : List X). l ++ ys) (replicate-append-replicate n k z)

  clear_part : (n k : ℕ) (d : List X) {l e : List X} → n + k ≤ length l → l ≡ replicate n z ++ drop n d → e ≡ replicate (length (mid_of n k l)) z →
      put_mid n k l e ≡ replicate (n + k) z ++ drop (n + k) d
  clear_part n k d {l} {e} h i f =
      let g : take n l ≡ replicate n z = ap (take n) i ∙ (seams n (drop n d)).0 in
      let b : drop n l ≡ drop n d = ap (drop n) i ∙ (seams n (drop n d)).1 in
      let m : length (mid_of n k l) ≡ k = length-take-le k (drop n l) (omega (arith, length-drop n l)) in
      let p : post_of n k l ≡ drop (n + k) d = ap (drop k) b ∙ drop-drop k n d in
      (rw (g, f, m, p)) ∙ joined n k (drop (n + k) d)

  pub clear_block : (n k : ℕ) (d : List X) {l e : List X} → k ≤ length l - n → n ≤ length d → length l ≡ length d →
      l ≡ replicate n z ++ drop n d → e ≡ replicate (length (mid_of n (n + k - n) l)) z → put_mid n (n + k - n) l e ≡ replicate (n + k) z ++ drop (n + k) d
  clear_block n k d h m j i f = let s : n + (n + k - n) ≡ n + k = omega arith in clear_part n (n + k - n) d (omega arith) i f ∙ (rw s)

  pub clear_rest : (n : ℕ) (d : List X) {l e : List X} → n ≤ length d → length l ≡ length d → l ≡ replicate n z ++ drop n d →
      e ≡ replicate (length (mid_of n (length l - n) l)) z → put_mid n (length l - n) l e ≡ replicate (length d) z
  clear_rest n d {l} h k i f =
      let s : n + (length l - n) ≡ length d = omega arith in
      clear_part n (length l - n) d (omega arith) i f ∙ (rw (s, drop-length, append-nil))

  pub part_length : (n k : ℕ) (l : List X) {e : List X} → e ≡ replicate (length (mid_of n k l)) z → length (put_mid n k l e) ≡ length l
  part_length n k l {e} f = same_len_mid n k l e (ap length f ∙ length-replicate (length (mid_of n k l)) z)
