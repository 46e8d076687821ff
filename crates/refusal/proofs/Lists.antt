-- Laws of tests, and of `before`, `some` and `every` over any test. Assumes nothing.
use Prim.Native.Nat.{ℕ, zero, suc, ◌+◌, ◌-◌, ◌≤◌, ◌<◌, min, zero-le}
use native.Mathlib.Nat.{add-zero, add-suc, suc-add, add-sub_cancel_left}
use native.Mathlib.Numerals.{add-one}
use native.Mathlib.Omega.{arith}
use mathlib.Core.Path.{◌≡◌, refl, ap, sym, ◌∙◌}
use mathlib.Core.Bool.{Bool, true, false, not, ◌&&◌}
use mathlib.Core.List.{List, [], ◌∷◌, ◌++◌}
use lib.Dec.{eqb}
use lib.ListN.{length, get_or, take, drop, drop_of_length-le, length-take, length-drop}
use lib.Seq.{drop-cons, drop-nil, drop-drop, take_all}
use borrow.Author.Rules.{rules}
use borrow.Author.Tests.{eq-eqb, ne_eqb, eqb-true}
use Rattle.refusal.specs.Lists.{pick, before, same_list, first_equal}

-- two tests that hold together
pub and_split : (a b : Bool) → (a && b) ≡ true → (a ≡ true) × (b ≡ true)
and_split true b e = (refl, e)
and_split false b e = let z : ◌≡◌ {A = ℕ} 0 1 = cc in absurd (omega arith)

-- A search for the first place at which a test holds. Its loop's invariant: what is found from here is what is found in all.

module _ (p : ℕ → Bool) where
  pub before_≤ : (xs : List ℕ) → before p xs ≤ length xs
  unfolding before
  before_≤ [] = zero-le
  before_≤ (x ∷ xs) = cases (p x) (before_≤ xs) where
    cases : (t : Bool) → before p xs ≤ length xs → pick t zero (suc (before p xs)) ≤ suc (length xs)
    cases true h = zero-le
    cases false h = omega arith

  pub before-true : {x : ℕ} (xs : List ℕ) → p x ≡ true → before p (x ∷ xs) ≡ 0
  unfolding before
  before-true xs e = rw e

  pub before-false : {x : ℕ} (xs : List ℕ) → p x ≡ false → before p (x ∷ xs) ≡ suc (before p xs)
  unfolding before
  before-false xs e = rw e

  -- the test holds here
  pub before_stop : (xs : List ℕ) (i : ℕ) → i < length xs → p (get_or xs i 0) ≡ true → before p (drop i xs) ≡ 0
  before_stop xs i h e = rw (drop-cons xs i 0) (before-true _ e)

  pub halts : (xs : List ℕ) (i : ℕ) {n : ℕ} → i < length xs → p (get_or xs i 0) ≡ true → i + before p (drop i xs) ≡ n → i ≡ n
  halts xs i h e a = omega (arith, before_stop xs i h e)

  -- the test does not hold here: go on behind it
  pub before_pass : (xs : List ℕ) (i : ℕ) → i < length xs → p (get_or xs i 0) ≡ false → before p (drop i xs) ≡ 1 + before p (drop (i + 1) xs)
  before_pass xs i h e = rw (add-one, drop-cons xs i 0) (omega (arith, before-false (drop (suc i) xs) e))

  pub passes : (xs : List ℕ) (i : ℕ) {n : ℕ} → i < length xs → p (get_or xs i 0) ≡ false → i + before p (drop i xs) ≡ n → i + 1 + before p (drop (i + 1) xs) ≡ n
  passes xs i h e a = omega (arith, before_pass xs i h e)

  -- the same, where a function made the test
  pub halts_by : (xs : List ℕ) (i : ℕ) {n : ℕ} {t : Bool} → i < length xs → t ≡ p (get_or xs i 0) → t ≡ true → i + before p (drop i xs) ≡ n → i ≡ n
  halts_by xs i h e f a = halts xs i h (sym e ∙ f) a

  pub passes_by : (xs : List ℕ) (i : ℕ) {n : ℕ} {t : Bool} → i < length xs → t ≡ p (get_or xs i 0) → t ≡ false → i + before p (drop i xs) ≡ n
      → i + 1 + before p (drop (i + 1) xs) ≡ n
  passes_by xs i h e f a = passes xs i h (sym e ∙ f) a

  -- where a search ends, the next one begins at once
  pub before_again : (xs : List ℕ) → before p (drop (before p xs) xs) ≡ 0
  before_again [] = rw drop-nil (omega (arith, before_≤ []))
  before_again (x ∷ xs) = cases (p x) refl (before_again xs) where
    cases : (t : Bool) → p x ≡ t → before p (drop (before p xs) xs) ≡ 0 → before p (drop (before p (x ∷ xs)) (x ∷ xs)) ≡ 0
    cases true e h = rw (before-true {x = x} xs e) (before-true {x = x} xs e)
    cases false e h = rw (before-false {x = x} xs e) h

  pub before-next : (xs : List ℕ) (at : ℕ) {n : ℕ} → n ≡ at + before p (drop at xs) → before p (drop n xs) ≡ 0
  before-next xs at h = rw (h, ← drop-drop) (before_again (drop at xs))

  -- a search that ends at once ends at a place where the test holds
  pub before_here : (xs : List ℕ) (i : ℕ) → i < length xs → before p (drop i xs) ≡ 0 → p (get_or xs i 0) ≡ true
  before_here xs i h z = cases (p (get_or xs i 0)) refl where
    cases : (t : Bool) → p (get_or xs i 0) ≡ t → t ≡ true
    cases true e = refl
    cases false e = absurd (omega (arith, before_pass xs i h e))

  -- nothing is left
  pub before_end : (xs : List ℕ) (i : ℕ) → length xs ≤ i → before p (drop i xs) ≡ 0
  unfolding before
  before_end xs i h = rw (drop_of_length-le xs h)

  pub ends : (xs : List ℕ) (i : ℕ) {n : ℕ} → length xs ≤ i → i + before p (drop i xs) ≡ n → i ≡ n
  ends xs i h a = omega (arith, before_end xs i h)

  -- in the front of a list, what is found in all of it, or nothing
  pub before-take : (n : ℕ) (xs : List ℕ) → before p (take n xs) ≡ min n (before p xs)
  unfolding before
  before-take zero xs = omega arith
  before-take (suc n) [] = omega arith
  before-take (suc n) (x ∷ xs) = cases (p x) (before-take n xs) where
    cases : (t : Bool) → before p (take n xs) ≡ min n (before p xs) → pick t zero (suc (before p (take n xs))) ≡ min (suc n) (pick t zero (suc (before p xs)))
    cases true h = omega arith
    cases false h = omega arith

  -- up to the place that is found, the search can begin anywhere
  pub before_skip : (n : ℕ) (xs : List ℕ) → n ≤ before p xs → n + before p (drop n xs) ≡ before p xs
  unfolding before
  before_skip zero xs h = omega arith
  before_skip (suc n) [] h = absurd (omega arith)
  before_skip (suc n) (x ∷ xs) h = cases (p x) (before_skip n xs) h where
    cases : (t : Bool) → (n ≤ before p xs → n + before p (drop n xs) ≡ before p xs) → suc n ≤ pick t zero (suc (before p xs))
        → suc n + before p (drop n xs) ≡ pick t zero (suc (before p xs))
    cases true r k = absurd (omega arith)
    cases false r k = omega (arith, r (omega arith))

-- A search with no early way out. Its loop's invariant: the less of what is found so far and what is found from here is what is found in all.
-- What is found so far is m, the list's length, where that is nothing.
module _ (p : ℕ → Bool) (xs : List ℕ) where
  pub least_begins : {m : ℕ} → length xs ≡ m → min m (0 + before p xs) ≡ before p xs
  least_begins l = omega (arith, before_≤ p xs)

  pub least_goes : (k : ℕ) {f g e m n : ℕ} {t : Bool} → k < length xs → t ≡ p (get_or xs k 0) → e ≡ pick t k m → g ≡ min f e → f ≤ m
      → min f (k + before p (drop k xs)) ≡ n → min g (k + 1 + before p (drop (k + 1) xs)) ≡ n
  least_goes k {f} {g} {e} {m} {n} {t} h i j l u a = cases t i j where
    cases : (t : Bool) → t ≡ p (get_or xs k 0) → e ≡ pick t k m → min g (k + 1 + before p (drop (k + 1) xs)) ≡ n
    cases true i j = omega (arith, before_stop p xs k h (sym i))
    cases false i j = omega (arith, before_pass p xs k h (sym i))

  pub least_ends : (k : ℕ) {f n : ℕ} → length xs ≤ k → f ≤ k → min f (k + before p (drop k xs)) ≡ n → f ≡ n
  least_ends k h u a = omega (arith, before_end p xs k h)

-- A part of a list: m numbers from a place, as `&s[at..at + m]` reads them, and the last m, as `&s[s.len() - m..]` does.
module _ (xs : List ℕ) (m : ℕ) where
  pub part_length : (at : ℕ) → at + m ≤ length xs → length (take (at + m - at) (drop at xs)) ≡ m
  part_length at h = simp (length-take, length-drop) (omega arith)

  pub last-length : m ≤ length xs → length (take (length xs - (length xs - m)) (drop (length xs - m) xs)) ≡ m
  last-length h = simp (length-take, length-drop) (omega arith)

-- A search part by part.
module _ (p : ℕ → Bool) (xs : List ℕ) (at : ℕ) where
  part : (m : ℕ) → before p (take (at + m - at) (drop at xs)) ≡ min m (before p (drop at xs))
  part m = rw (add-sub_cancel_left at m) (before-take p m (drop at xs))

  pub part_halts : (m : ℕ) {r n : ℕ} → r ≡ before p (take (at + m - at) (drop at xs)) → r < m → at + before p (drop at xs) ≡ n → at + r ≡ n
  part_halts m e h a = omega (arith, part m)

  pub part-passes : (m : ℕ) {r n : ℕ} → r ≡ before p (take (at + m - at) (drop at xs)) → m ≤ r → at + before p (drop at xs) ≡ n
      → at + m + before p (drop (at + m) xs) ≡ n
  part-passes m e h a = rw (← drop-drop m at xs) (omega (arith, part m, before_skip p m (drop at xs) (omega (arith, part m))))

  -- the part up to the end can begin before the place that the search has come to
  pub part-ends : (last : ℕ) {r : ℕ} → r ≡ before p (take (length xs - last) (drop last xs)) → last ≤ at → at + before p (drop at xs) ≡ before p xs
      → last + r ≡ before p xs
  part-ends last e h a =
      let rest : take (length xs - last) (drop last xs) ≡ drop last xs = take_all (length xs - last) (drop last xs) (rw length-drop (omega arith)) in
      omega (arith, rw rest at e, before_skip p last xs (omega arith))

-- what is made of a list whose places are counted from k, where an element at which the test fails makes nothing: the search may come first
pub search_first : {A : Type 0} (p : ℕ → Bool) (f : ℕ → List ℕ → A) → ((k : ℕ) → f k [] ≡ f 0 []) →
    ((k x : ℕ) (xs : List ℕ) → p x ≡ false → f k (x ∷ xs) ≡ f (suc k) xs) →
    (k n : ℕ) (xs : List ℕ) → n ≡ before p xs → f k xs ≡ f (k + n) (drop n xs)
search_first p f z s k n [] h = rw drop-nil (z k ∙ sym (z (k + n)))
search_first p f z s k n (x ∷ xs) h = cases (p x) refl (search_first p f z s (suc k) (before p xs) xs refl) where
  cases : (t : Bool) → p x ≡ t → f (suc k) xs ≡ f (suc k + before p xs) (drop (before p xs) xs) → f k (x ∷ xs) ≡ f (k + n) (drop n (x ∷ xs))
  cases true e r = rw (h ∙ before-true p {x = x} xs e) (rw add-zero)
  cases false e r = rw (h ∙ before-false p {x = x} xs e, add-suc, s k x xs e) (r ∙ (rw suc-add))

-- a test that never holds, and one that always does
pub before_never : (p : ℕ → Bool) → ((x : ℕ) → p x ≡ false) → (xs : List ℕ) → before p xs ≡ length xs
unfolding before
before_never p h [] = refl
before_never p h (x ∷ xs) = rw (h x, before_never p h xs)

pub before_always : (p : ℕ → Bool) → ((x : ℕ) → p x ≡ true) → (xs : List ℕ) → before p xs ≡ 0
unfolding before
before_always p h [] = refl
before_always p h (x ∷ xs) = rw (h x)

-- two tests that agree find the same place
pub before_same : (p q : ℕ → Bool) → ((x : ℕ) → p x ≡ q x) → (xs : List ℕ) → before p xs ≡ before q xs
unfolding before
before_same p q h [] = refl
before_same p q h (x ∷ xs) = rw (h x, before_same p q h xs)

-- a negated test of two numbers
pub not_eqb : (a b : ℕ) → a ≡ b → not (eqb a b) ≡ false
not_eqb a b e = ap not (eq-eqb a b e)

pub not_neqb : (a b : ℕ) → (a ≡ b → ⊥) → not (eqb a b) ≡ true
not_neqb a b n = ap not (ne_eqb a b n)

-- what a loop of such a search is left with
pub ruleset searching = (rules, halts, passes, ends, halts_by, passes_by, eq-eqb, ne_eqb, not_eqb, not_neqb)

-- and a loop of one with no early way out, and of one part by part
pub ruleset searching-least = (rules, least_begins, least_goes, least_ends)

pub ruleset searching-parts = (rules, part_length, last-length, part_halts, part-passes, part-ends)

-- Lists that are the same

pub same_equal : (xs ys : List ℕ) → same_list xs ys ≡ true → xs ≡ ys
unfolding same_list
same_equal [] [] h = refl
same_equal [] (y ∷ ys) h = let z : ◌≡◌ {A = ℕ} 0 1 = cc in absurd (omega arith)
same_equal (x ∷ xs) [] h = let z : ◌≡◌ {A = ℕ} 0 1 = cc in absurd (omega arith)
same_equal (x ∷ xs) (y ∷ ys) h =
    let s = and_split (eqb x y) (same_list xs ys) h in
    let e : x ≡ y = eqb-true x y s.0 in
    let r = same_equal xs ys s.1 in
    ap (λ (n : ℕ). n ∷ xs) e ∙ ap (λ (l : List ℕ). y ∷ l) r

pub equal_same : (xs : List ℕ) → same_list xs xs ≡ true
unfolding same_list
equal_same [] = refl
equal_same (x ∷ xs) = rw (eq-eqb x x refl) (equal_same xs)

-- the first that is the same keeps its place when more stand behind
pub first_keeps : (xs : List ℕ) (ls more : List (List ℕ)) → first_equal xs ls < length ls → first_equal xs (ls ++ more) ≡ first_equal xs ls
unfolding first_equal
first_keeps xs [] more h = absurd (omega arith)
first_keeps xs (l ∷ ls) more h = go (same_list l xs) h (first_keeps xs ls more)
  where
    go : (t : Bool) → pick t 0 (suc (first_equal xs ls)) < suc (length ls) → (first_equal xs ls < length ls → first_equal xs (ls ++ more) ≡ first_equal xs ls) →
        pick t 0 (suc (first_equal xs (ls ++ more))) ≡ pick t 0 (suc (first_equal xs ls))
    go true k ih = refl
    go false k ih = ap suc (ih (omega arith))
