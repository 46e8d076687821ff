-- DISTINCT LAW: every nonzero mask has its one place among the distinct masks. Assumes nothing.
use Prim.Native.Nat.{ℕ, zero, suc, ◌≤◌, ◌<◌}
use mathlib.Core.Path.{◌≡◌, refl, ◌∙◌}
use mathlib.Core.Logic.{◌⊎◌, inl, inr}
use mathlib.Core.Bool.{Bool, true, false}
use mathlib.Core.List.{List, [], ◌∷◌, ◌++◌}
use native.Mathlib.Omega.{arith}
use lib.ListN.{length, get_or, length-append, get_or-append}
use lib.Seq.{get_or-append_seam}
use Rattle.refusal.proofs.Lists.{same_equal}
use Rattle.refusal.specs.Lists.{pick, same_list, first_equal}
use Rattle.list_transitions.proofs.Order.{le_cases}
use Rattle.list_masks.specs.Masks.{is_zero, index, add_new, distinct}
use Rattle.list_masks.proofs.Packs.{Every}
use Rattle.list_masks.proofs.Keeps.{Has, index_snoc, add_cases, has_new, has_distinct_keep, index-last}

pub has_at : (ds : List (List ℕ)) (m : List ℕ) → Has ds m → get_or ds (index ds m) [] ≡ m
unfolding first_equal
has_at [] m h = absurd (omega arith)
has_at (d ∷ ds) m h = go (same_list d m) refl h (λ k. has_at ds m k)
  where
    go : (t : Bool) → same_list d m ≡ t → pick t 0 (suc (index ds m)) < suc (length ds) → (Has ds m → get_or ds (index ds m) [] ≡ m) →
        get_or (d ∷ ds) (pick t 0 (suc (index ds m))) [] ≡ m
    go true e k ih = same_equal d m e
    go false e k ih = ih (omega arith)

abbrev pub Among : List ℕ → List (List ℕ) → Type 0
Among m [] = ⊥
Among m (x ∷ xs) = (m ≡ x) ⊎ Among m xs

-- DISTINCT LAW: each nonzero mask has its place
pub has_distinct : (ds ms : List (List ℕ)) (m : List ℕ) → is_zero m ≡ false → Among m ms → Has (distinct ds ms) m
unfolding distinct
has_distinct ds [] m z i = absurd i
has_distinct ds (x ∷ ms) m z (inl e) = has_distinct_keep (add_new ds x) ms m (rw (← e) (has_new ds m z))
has_distinct ds (x ∷ ms) m z (inr i) = has_distinct (add_new ds x) ms m z i

-- no mask stands twice: each is at its own place
abbrev pub Once : List (List ℕ) → Type 0
Once ds = (k : ℕ) → k < length ds → index ds (get_or ds k []) ≡ k

once_snoc : (ds : List (List ℕ)) (m : List ℕ) → length ds ≤ index ds m → Once ds → Once (ds ++ (m ∷ []))
once_snoc ds m n o k h =
    le_cases (length ds) k
    (λ l.
    let e : k ≡ length ds = omega (arith, length-append ds (m ∷ [])) in
    rw (e, get_or-append_seam ds m [] []) (index-last ds m n))
    (λ l.
    let at : index ds (get_or ds k []) ≡ k = o k l in
    let has : Has ds (get_or ds k []) = omega arith in
    rw (get_or-append ds (m ∷ []) [] k l) (index_snoc ds (m ∷ []) (get_or ds k []) has ∙ at))

once_add : (ds : List (List ℕ)) (m : List ℕ) → Once ds → Once (add_new ds m)
once_add ds m o = add_cases Once ds m o (λ h. once_snoc ds m h o)

pub once_distinct : (ds ms : List (List ℕ)) → Once ds → Once (distinct ds ms)
unfolding distinct
once_distinct ds [] o = o
once_distinct ds (m ∷ ms) o = once_distinct (add_new ds m) ms (once_add ds m o)

pub every_at : (P : List ℕ → Type 0) (ds : List (List ℕ)) (k : ℕ) → Every P ds → k < length ds → P (get_or ds k [])
every_at P [] k h l = absurd (omega arith)
every_at P (d ∷ ds) zero h l = h.0
every_at P (d ∷ ds) (suc k) h l = every_at P ds k h.1 (omega arith)
