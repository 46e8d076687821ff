-- How long records are that stand one behind the other. Assumes nothing.
use Prim.Native.Nat.{ℕ, ◌+◌, ◌*◌}
use native.Mathlib.Nat.{suc-mul, zero-mul}
use native.Mathlib.Omega.{arith}
use mathlib.Core.Path.{◌≡◌, refl, sym, ap}
use mathlib.Core.List.{List, [], ◌∷◌, ◌++◌, map}
use lib.ListN.{length, length-append, length-map}
use Rattle.refusal.specs.Lists.{each}
use Rattle.law_tables.specs.Table.{counted, All}

-- the words of records that were changed
pub each_map : {A : Type 0} (f : A → List ℕ) (g : A → A) (xs : List A) → each f (map g xs) ≡ each (λ x. f (g x)) xs
unfolding each
each_map f g [] = refl
each_map f g (x ∷ xs) = ap (λ l. f (g x) ++ l) (each_map f g xs)

pub counted-map : {A : Type 0} (f : A → List ℕ) (g : A → A) (xs : List A) → counted f (map g xs) ≡ counted (λ x. f (g x)) xs
counted-map f g xs = rw (length-map xs g, each_map f g xs)

-- each as long as another
pub same_length : {A : Type 0} (h f : A → List ℕ) → ((x : A) → length (h x) ≡ length (f x)) → (xs : List A) → length (each h xs) ≡ length (each f xs)
unfolding each
same_length h f e [] = refl
same_length h f e (x ∷ xs) = omega (arith, e x, same_length h f e xs, length-append (h x) (each h xs), length-append (f x) (each f xs))

-- what holds of everything holds of all in a list
pub all_of : {A : Type 0} (P : A → Type 0) → ((x : A) → P x) → (xs : List A) → All P xs
unfolding All
all_of P h [] = tt
all_of P h (x ∷ xs) = (h x, all_of P h xs)

-- records of one size
pub sized : {A : Type 0} (f : A → List ℕ) (n : ℕ) (xs : List A) → All (λ x. length (f x) ≡ n) xs → length (each f xs) ≡ length xs * n
unfolding each All
sized f n [] h = sym (zero-mul n)
sized f n (x ∷ xs) h = omega (arith, h.0, sized f n xs h.1, length-append (f x) (each f xs), suc-mul (length xs) n)

pub threes : {A : Type 0} (f : A → List ℕ) → ((x : A) → length (f x) ≡ 3) → (xs : List A) → length (each f xs) ≡ length xs * 3
threes f h xs = sized f 3 xs (all_of (λ x. length (f x) ≡ 3) h xs)
