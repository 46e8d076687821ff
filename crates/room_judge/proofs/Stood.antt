-- What it means that a list stands in a room: as many numbers of the room, from its place on, are the list. Assumes nothing.
use Prim.Native.Nat.{ℕ, zero, suc, ◌+◌, ◌-◌, ◌<◌, ◌≤◌}
use native.Mathlib.Nat.{add-zero}
use native.Mathlib.Numerals.{add-one}
use native.Mathlib.Omega.{arith}
use mathlib.Core.Path.{◌≡◌, refl, sym, ap, ◌∙◌}
use mathlib.Core.List.{List, [], ◌∷◌, ◌++◌}
use mathlib.Core.Bool.{Bool, true, false}
use lib.Dec.{ltb, eqb}
use lib.ListN.{length, get_or, take, drop, length-drop, take-append-drop, drop_of_length-le}
use lib.Seq.{drop-cons, take-append_seam, drop-append_seam}
use borrow.Author.Tests.{ltb-true, ltb-false, lt-ltb, eqb-true, eq-eqb}
use Rattle.refusal.proofs.Lists.{and_split}
use Rattle.refusal.specs.Lists.{pick, every}
use Rattle.std.specs.Prelude.{Option, Some, None}
use Rattle.buffer.specs.Over.{zeros, padded}
use Rattle.room_judge.specs.Standing.{stands_at, standing, empty_from}
use Rattle.room_judge.proofs.Comparing.{onward, standing-append}

-- Tests

-- two tests that hold together are one
pub alike : (a b : Bool) → (a ≡ true → b ≡ true) → (b ≡ true → a ≡ true) → a ≡ b
alike true b f g = sym (f refl)
alike false true f g = g refl
alike false false f g = refl

pub next_is : {p q : ℕ} → Some p ≡ Some q → p ≡ q
next_is h = cc

-- the same place, counted otherwise
pub moved : (xs w : List ℕ) (i j : ℕ) {p : ℕ} → i ≡ j → standing xs j w ≡ Some p → standing xs i w ≡ Some p
moved xs w i j e h = rw e h

-- One number

pub stands_in : (x n : ℕ) (d : List ℕ) → n < length d → get_or d n 0 ≡ x → stands_at x n d ≡ true
unfolding stands_at
stands_in x n d h e = rw (lt-ltb n (length d) h, eq-eqb (get_or d n 0) x e)

pub stands_is : (x n : ℕ) (d : List ℕ) → stands_at x n d ≡ true → (n < length d) × (get_or d n 0 ≡ x)
unfolding stands_at
stands_is x n d h = let s = and_split (ltb n (length d)) (eqb (get_or d n 0) x) h in (ltb-true _ _ s.0, eqb-true _ _ s.1)

-- A list, number by number

module _ (x : ℕ) (xs : List ℕ) (n : ℕ) (d : List ℕ) {p : ℕ} where
  pub cons_stands : stands_at x n d ≡ true → standing xs (n + 1) d ≡ Some p → standing (x ∷ xs) n d ≡ Some p
  unfolding standing
  cons_stands e h = rw e h

  pub cons_stood : standing (x ∷ xs) n d ≡ Some p → (stands_at x n d ≡ true) × (standing xs (n + 1) d ≡ Some p)
  unfolding standing
  cons_stood h = go (stands_at x n d) refl h
    where
      go : (b : Bool) → stands_at x n d ≡ b → pick b (standing xs (n + 1) d) None ≡ Some p
          → (stands_at x n d ≡ true) × (standing xs (n + 1) d ≡ Some p)
      go true e k = (e, k)
      go false e k = let z : ◌≡◌ {A = ℕ} 0 1 = cc in absurd (omega arith)

module _ (xs ys : List ℕ) (n : ℕ) (d : List ℕ) {p : ℕ} where
  pub append-stands : {q : ℕ} → standing xs n d ≡ Some q → standing ys q d ≡ Some p → standing (xs ++ ys) n d ≡ Some p
  append-stands e h = standing-append xs ys n d ∙ (rw e h)

  pub append_stood : standing (xs ++ ys) n d ≡ Some p → (q : ℕ) × (standing xs n d ≡ Some q) × (standing ys q d ≡ Some p)
  append_stood h = go (standing xs n d) refl (sym (standing-append xs ys n d) ∙ h)
    where
      go : (o : Option ℕ) → standing xs n d ≡ o → onward o (λ q. standing ys q d) ≡ Some p → (q : ℕ) × (standing xs n d ≡ Some q) × (standing ys q d ≡ Some p)
      go (Some q) e k = (q, e, k)
      go (None) e k = let z : ◌≡◌ {A = ℕ} 0 1 = cc in absurd (omega arith)

-- what stands ends within the room
pub stood_within : (xs : List ℕ) (n : ℕ) (d : List ℕ) (p : ℕ) → n ≤ length d → standing xs n d ≡ Some p → p ≤ length d
unfolding standing
stood_within [] n d p l h = let e : n ≡ p = cc in omega arith
stood_within (x ∷ xs) n d p l h = let s = cons_stood x xs n d h in stood_within xs (n + 1) d p (omega (arith, (stands_is x n d s.0).0)) s.1

-- the place behind it, and the numbers themselves
pub stood_next : (xs : List ℕ) (n : ℕ) (d : List ℕ) (p : ℕ) → standing xs n d ≡ Some p → p ≡ n + length xs
unfolding standing
stood_next [] n d p h = let e : n ≡ p = cc in omega arith
stood_next (x ∷ xs) n d p h = let r = stood_next xs (n + 1) d p (cons_stood x xs n d h).1 in omega arith

pub stood_is : (xs : List ℕ) (n : ℕ) (d : List ℕ) (p : ℕ) → standing xs n d ≡ Some p → take (length xs) (drop n d) ≡ xs
stood_is [] n d p h = refl
stood_is (x ∷ xs) n d p h =
    let s = cons_stood x xs n d h in
    let i = stands_is x n d s.0 in
    let r : take (length xs) (drop (suc n) d) ≡ xs = rw add-one at (stood_is xs (n + 1) d p s.1) in
    rw (drop-cons d n 0 i.0, i.1, r)

pub stands-part : (xs : List ℕ) (n : ℕ) (d : List ℕ) → take (length xs) (drop n d) ≡ xs → standing xs n d ≡ Some (n + length xs)
unfolding standing
stands-part [] n d h = rw add-zero
stands-part (x ∷ xs) n d h = go (ltb n (length d)) refl (stands-part xs (n + 1) d)
  where
    go : (b : Bool) → ltb n (length d) ≡ b → (take (length xs) (drop (n + 1) d) ≡ xs → standing xs (n + 1) d ≡ Some (n + 1 + length xs))
        → standing (x ∷ xs) n d ≡ Some (n + length (x ∷ xs))
    go true e rec =
        let l : n < length d = ltb-true _ _ e in
        let k : (get_or d n 0 ∷ take (length xs) (drop (suc n) d)) ≡ x ∷ xs = rw (drop-cons d n 0 l) at h in
        let i : get_or d n 0 ≡ x = ap (λ (o : List ℕ). get_or o 0 0) k in
        let j : take (length xs) (drop (suc n) d) ≡ xs = ap (λ (o : List ℕ). drop 1 o) k in
        let q : n + 1 + length xs ≡ n + suc (length xs) = omega arith in
        cons_stands x xs n d (stands_in x n d l i) (rec (rw add-one j) ∙ ap Some q)
    go false e rec =
        let l : length d ≤ n = ltb-false _ _ e in
        let k : ◌≡◌ {A = List ℕ} [] (x ∷ xs) = rw (drop_of_length-le d l) at h in
        let z : 0 ≡ suc (length xs) = ap length k in
        absurd (omega arith)

-- Zeros behind a list

every-zero : (l : List ℕ) → every (λ x. eqb x 0) l ≡ true → l ≡ zeros (length l)
unfolding every
every-zero [] h = refl
every-zero (x ∷ l) h =
    let s = and_split (eqb x 0) (every (λ x. eqb x 0) l) h in
    let e : x ≡ 0 = eqb-true x 0 s.0 in
    let r = every-zero l s.1 in
    ap (λ (n : ℕ). n ∷ l) e ∙ ap (λ (k : List ℕ). 0 ∷ k) r

zeros-every : (n : ℕ) → every (λ x. eqb x 0) (zeros n) ≡ true
unfolding every
zeros-every zero = refl
zeros-every (suc n) = rw (eq-eqb 0 0 refl) (zeros-every n)

pub whole_stood : (xs d : List ℕ) {p : ℕ} → standing xs 0 d ≡ Some p → empty_from p d ≡ true → padded (length d) xs ≡ d
unfolding empty_from padded
whole_stood xs d {p} h e =
    let q : p ≡ length xs = omega (arith, stood_next xs 0 d p h) in
    let z : drop (length xs) d ≡ zeros (length (drop (length xs) d)) = rw (← q) (every-zero (drop p d) e) in
    let l : length (drop (length xs) d) ≡ length d - length xs = length-drop (length xs) d in
    let i : take (length xs) d ≡ xs = stood_is xs 0 d p h in
    ap (λ (n : ℕ). xs ++ zeros n) (sym l) ∙ ap (λ (k : List ℕ). xs ++ k) (sym z) ∙ ap (λ (k : List ℕ). k ++ drop (length xs) d) (sym i)
    ∙ take-append-drop (length xs) d

pub whole-stands : (xs d : List ℕ) → padded (length d) xs ≡ d → (standing xs 0 d ≡ Some (length xs)) × (empty_from (length xs) d ≡ true)
unfolding empty_from padded
whole-stands xs d h =
    let z = zeros (length d - length xs) in
    let i : take (length xs) d ≡ xs = ap (take (length xs)) (sym h) ∙ take-append_seam xs z in
    let j : drop (length xs) d ≡ z = ap (drop (length xs)) (sym h) ∙ drop-append_seam xs z in
    let k : 0 + length xs ≡ length xs = omega arith in
    (stands-part xs 0 d i ∙ ap Some k, rw j (zeros-every (length d - length xs)))
