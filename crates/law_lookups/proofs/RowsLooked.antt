-- What a search gives in a row of a table, once for wide and escape rows: in a searchable row the goal of the range that holds the symbol,
-- whichever it is; and where no range holds it, the other answer. Assumes nothing.
use Prim.Native.Nat.{ℕ, ◌<◌, ◌≤◌}
use native.Mathlib.Omega.{arith}
use mathlib.Core.Path.{◌≡◌, refl}
use mathlib.Core.Bool.{Bool, true, false}
use mathlib.Core.List.{List, [], ◌∷◌, ◌++◌}
use lib.Dec.{leb}
use borrow.Author.Tests.{le-leb, lt-leb, leb-true}
use Rattle.refusal.specs.Lists.{pick}
use Rattle.law_tables.specs.Table.{Range, All}
use Rattle.law_tables.specs.Rules.{Searchable}
use Rattle.law_lookups.specs.Looks.{goal_at}

pub first_ordered : (r : Range) (rs : List Range) → Searchable (r ∷ rs) → r.low ≤ r.high
unfolding Searchable
first_ordered r [] s = s
first_ordered r (next ∷ rs) s = s.0

pub behind_first : (r : Range) (rs : List Range) → Searchable (r ∷ rs) → Searchable rs
unfolding Searchable
behind_first r [] s = tt
behind_first r (next ∷ rs) s = s.2

-- the first range ends below every other
first_below : (b : Range) (bs : List Range) (r : Range) (rs : List Range) → Searchable (b ∷ (bs ++ (r ∷ rs))) → b.high < r.low
unfolding Searchable
first_below b [] r rs s = s.1
first_below b (c ∷ cs) r rs s = omega (arith, s.1, first_ordered c (cs ++ (r ∷ rs)) s.2, first_below c cs r rs s.2)

pub goal_held : (other : ℕ) (bs : List Range) (r : Range) (rs : List Range) (x : ℕ) → Searchable (bs ++ (r ∷ rs)) → r.low ≤ x → x ≤ r.high
    → goal_at other (bs ++ (r ∷ rs)) x ≡ r.goal
unfolding goal_at
goal_held other [] r rs x s l h = rw (le-leb x r.high h, le-leb r.low x l)
goal_held other (b ∷ bs) r rs x s l h =
    let f = first_below b bs r rs s in
    let p : b.high < x = omega arith in
    rw (lt-leb x b.high p) (goal_held other bs r rs x (behind_first b (bs ++ (r ∷ rs)) s) l h)

pub goal_none : (other : ℕ) (rs : List Range) (x : ℕ) → All (λ r. r.low ≤ x → x ≤ r.high → ⊥) rs → goal_at other rs x ≡ other
unfolding goal_at All
goal_none other [] x a = refl
goal_none other (r ∷ rs) x a = cases (leb x r.high) refl (leb r.low x) refl (goal_none other rs x a.1)
  where
    cases : (b : Bool) → leb x r.high ≡ b → (d : Bool) → leb r.low x ≡ d → goal_at other rs x ≡ other
        → pick b (pick d r.goal other) (goal_at other rs x) ≡ other
    cases true p true q i = absurd (a.0 (leb-true r.low x q) (leb-true x r.high p))
    cases true p false q i = refl
    cases false p d q i = i
