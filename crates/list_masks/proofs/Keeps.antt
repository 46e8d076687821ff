-- PLACES: a mask that was put among the distinct ones keeps its place there when more are put behind, and each of them is as long as all masks
-- are. Assumes nothing.
use Prim.Native.Nat.{ℕ, suc, ◌≤◌, ◌<◌}
use mathlib.Core.Path.{◌≡◌, refl, ap, ◌∙◌}
use mathlib.Core.Bool.{Bool, true, false}
use mathlib.Core.List.{List, [], ◌∷◌, ◌++◌}
use native.Mathlib.Omega.{arith}
use lib.ListN.{length, length-append}
use lib.Dec.{ltb}
use borrow.Author.Tests.{lt-ltb, le-ltb}
use Rattle.refusal.proofs.Lists.{equal_same, first_keeps}
use Rattle.refusal.specs.Lists.{pick, same_list, first_equal}
use Rattle.refusal.specs.Fixed.{NONE}
use Rattle.list_transitions.proofs.Order.{le_cases}
use Rattle.list_masks.specs.Masks.{is_zero, index, add_new, distinct, place_of}
use Rattle.list_masks.proofs.Packs.{Every, Wide}

-- m has a place among the masks
abbrev pub Has : List (List ℕ) → List ℕ → Type 0
Has ds m = index ds m < length ds

pub index_snoc : (ds es : List (List ℕ)) (m : List ℕ) → Has ds m → index (ds ++ es) m ≡ index ds m
index_snoc ds es m h = first_keeps m ds es h

has_append : (ds es : List (List ℕ)) (m : List ℕ) → Has ds m → Has (ds ++ es) m
has_append ds es m h = omega (arith, index_snoc ds es m h, length-append ds es)

has_last : (ds : List (List ℕ)) (m : List ℕ) → Has (ds ++ (m ∷ [])) m
unfolding first_equal
has_last [] m = rw (equal_same m) (omega arith)
has_last (d ∷ ds) m = go (same_list d m) (has_last ds m)
  where
    go : (t : Bool) → Has (ds ++ (m ∷ [])) m → pick t 0 (suc (index (ds ++ (m ∷ [])) m)) < suc (length (ds ++ (m ∷ [])))
    go true k = omega arith
    go false k = omega arith

-- a fact of the masks ds, and of these with m behind them where it is new, is one of what adding m leaves
pub add_cases : (P : List (List ℕ) → Type 0) (ds : List (List ℕ)) (m : List ℕ) → P ds →
    (length ds ≤ index ds m → P (ds ++ (m ∷ []))) → P (add_new ds m)
unfolding add_new
add_cases P ds m a b = go (is_zero m)
  where
    go : (s : Bool) → P (pick s ds (pick (ltb (index ds m) (length ds)) ds (ds ++ (m ∷ []))))
    go true = a
    go false =
        le_cases (length ds) (index ds m)
        (λ h. rw (le-ltb (index ds m) (length ds) h) (b h))
        (λ h. rw (lt-ltb (index ds m) (length ds) h) a)

has_keep : (ds : List (List ℕ)) (x m : List ℕ) → Has ds m → Has (add_new ds x) m
has_keep ds x m h = add_cases (λ l. Has l m) ds x h (λ _. has_append ds (x ∷ []) m h)

pub has_new : (ds : List (List ℕ)) (m : List ℕ) → is_zero m ≡ false → Has (add_new ds m) m
unfolding add_new
has_new ds m z = rw z (
    le_cases (length ds) (index ds m)
    (λ h. rw (le-ltb (index ds m) (length ds) h) (has_last ds m))
    (λ h. rw (lt-ltb (index ds m) (length ds) h) h))

pub has_distinct_keep : (ds ms : List (List ℕ)) (m : List ℕ) → Has ds m → Has (distinct ds ms) m
unfolding distinct
has_distinct_keep ds [] m h = h
has_distinct_keep ds (x ∷ ms) m h = has_distinct_keep (add_new ds x) ms m (has_keep ds x m h)

pub index-last : (ds : List (List ℕ)) (m : List ℕ) → length ds ≤ index ds m → index (ds ++ (m ∷ [])) m ≡ length ds
unfolding first_equal
index-last [] m h = rw (equal_same m)
index-last (d ∷ ds) m h = go (same_list d m) h (λ k. index-last ds m k)
  where
    go : (t : Bool) → suc (length ds) ≤ pick t 0 (suc (index ds m)) → (length ds ≤ index ds m → index (ds ++ (m ∷ [])) m ≡ length ds) →
        pick t 0 (suc (index (ds ++ (m ∷ [])) m)) ≡ suc (length ds)
    go true k ih = absurd (omega arith)
    go false k ih = ap suc (ih (omega arith))

index_keep : (ds : List (List ℕ)) (x m : List ℕ) → Has ds m → index (add_new ds x) m ≡ index ds m
index_keep ds x m h = add_cases (λ l. index l m ≡ index ds m) ds x refl (λ _. index_snoc ds (x ∷ []) m h)

index-distinct_keep : (ds ms : List (List ℕ)) (m : List ℕ) → Has ds m → index (distinct ds ms) m ≡ index ds m
unfolding distinct
index-distinct_keep ds [] m h = refl
index-distinct_keep ds (x ∷ ms) m h = index-distinct_keep (add_new ds x) ms m (has_keep ds x m h) ∙ index_keep ds x m h

pub place_some : (ds : List (List ℕ)) (m : List ℕ) → is_zero m ≡ false → place_of ds m ≡ index ds m
unfolding place_of
place_some ds m e = rw e

pub place_none : (ds : List (List ℕ)) (m : List ℕ) → is_zero m ≡ true → place_of ds m ≡ NONE
unfolding place_of
place_none ds m e = rw e

pub place_keep : (ds ms : List (List ℕ)) (m : List ℕ) → place_of (distinct (add_new ds m) ms) m ≡ place_of (add_new ds m) m
unfolding place_of
place_keep ds ms m = go (is_zero m) refl
  where
    go : (t : Bool) → is_zero m ≡ t → pick (is_zero m) NONE (index (distinct (add_new ds m) ms) m) ≡ pick (is_zero m) NONE (index (add_new ds m) m)
    go true e = rw e
    go false e = rw e (index-distinct_keep (add_new ds m) ms m (has_new ds m e))

-- A fact of every mask is one of every distinct mask

every_add : (P : List ℕ → Type 0) (ds : List (List ℕ)) (m : List ℕ) → Every P ds → P m → Every P (add_new ds m)
every_add P ds m h e = add_cases (Every P) ds m h (λ _. snoc ds h)
  where
    snoc : (ds : List (List ℕ)) → Every P ds → Every P (ds ++ (m ∷ []))
    snoc [] h = (e, tt)
    snoc (d ∷ ds) h = (h.0, snoc ds h.1)

pub every-distinct : (P : List ℕ → Type 0) (ds ms : List (List ℕ)) → Every P ds → Every P ms → Every P (distinct ds ms)
unfolding distinct
every-distinct P ds [] h e = h
every-distinct P ds (m ∷ ms) h e = every-distinct P (add_new ds m) ms (every_add P ds m h e.0) e.1

pub wide_add : (words : ℕ) (ds : List (List ℕ)) (m : List ℕ) → Wide words ds → length m ≡ words → Wide words (add_new ds m)
wide_add words = every_add (λ m. length m ≡ words)

pub wide_distinct : (words : ℕ) (ds ms : List (List ℕ)) → Wide words ds → Wide words ms → Wide words (distinct ds ms)
wide_distinct words = every-distinct (λ m. length m ≡ words)
