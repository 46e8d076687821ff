-- Words on lists of numbers that the definitions of all crates share.
use Rattle.std.specs.Prelude.{ℕ, zero, suc, Bool, true, false, ◌&&◌, ◌||◌, List, [], ◌∷◌, ◌++◌, eqb}

-- the first where the test holds, the second where it does not
abbrev pub pick : {A : Type 0} → Bool → A → A → A
pick true a b = a
pick false a b = b

-- the test holds at one of them
unfoldable pub some : (ℕ → Bool) → List ℕ → Bool
some p [] = false
some p (x ∷ xs) = p x || some p xs

-- the test holds at each of them
unfoldable pub every : (ℕ → Bool) → List ℕ → Bool
every p [] = true
every p (x ∷ xs) = p x && every p xs

-- how many stand before the first at which the test holds: all, where it holds at none
unfoldable pub before : (ℕ → Bool) → List ℕ → ℕ
before p [] = zero
before p (x ∷ xs) = pick (p x) zero (suc (before p xs))

-- two lists are the same, number for number
unfoldable pub same_list : List ℕ → List ℕ → Bool
same_list [] [] = true
same_list [] (y ∷ ys) = false
same_list (x ∷ xs) [] = false
same_list (x ∷ xs) (y ∷ ys) = eqb x y && same_list xs ys

-- the place of the first list that is the same as xs; how many there are, where none is
unfoldable pub first_equal : List ℕ → List (List ℕ) → ℕ
first_equal xs [] = 0
first_equal xs (l ∷ ls) = pick (same_list l xs) 0 (suc (first_equal xs ls))

-- what each gives, one behind the other
unfoldable pub each : {A : Type 0} → (A → List ℕ) → List A → List ℕ
each f [] = []
each f (x ∷ xs) = f x ++ each f xs
