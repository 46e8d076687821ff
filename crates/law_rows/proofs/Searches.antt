-- SEARCH LAWS: what a row whose ranges ascend gives at a point, of wide and escape rows alike. `d` is what is given where no range holds the point. Assumes
-- nothing.
use Prim.Native.Nat.{ℕ, ◌≤◌, ◌<◌}
use mathlib.Core.Path.{◌≡◌, refl, ◌∙◌}
use mathlib.Core.List.{[], ◌∷◌}
use native.Mathlib.Omega.{arith}
use borrow.Author.Tests.{le-leb, lt-leb}
use Rattle.law_tables.specs.Table.{Range}
use Rattle.law_lookups.specs.Looks.{goal_at}
use Rattle.law_rows.specs.Row.{Row, Sorted, Each}

module _ (d : ℕ) (r : Range) (rs : Row) (p : ℕ) where
  pub look_hit : r.low ≤ p → p ≤ r.high → goal_at d (r ∷ rs) p ≡ r.goal
  unfolding goal_at
  look_hit l h = rw (le-leb p r.high h, le-leb r.low p l)

  pub look_gap : p < r.low → p ≤ r.high → goal_at d (r ∷ rs) p ≡ d
  unfolding goal_at
  look_gap l h = rw (le-leb p r.high h, lt-leb r.low p l)

  pub look_past : r.high < p → goal_at d (r ∷ rs) p ≡ goal_at d rs p
  unfolding goal_at
  look_past h = rw (lt-leb p r.high h)

pub look_below : (d : ℕ) (from : ℕ) (rs : Row) (p : ℕ) → Sorted from rs → p < from → goal_at d rs p ≡ d
unfolding goal_at
look_below d from [] p s h = refl
look_below d from (r ∷ rs) p s h = look_gap d r rs p (omega arith) (omega arith)

-- no range passes top
abbrev pub Upto : ℕ → Row → Type 0
Upto top rs = Each (λ r. r.high ≤ top) rs

pub look_above : (d top : ℕ) (rs : Row) (p : ℕ) → Upto top rs → top < p → goal_at d rs p ≡ d
unfolding goal_at
look_above d top [] p u h = refl
look_above d top (r ∷ rs) p u h = look_past d r rs p (omega arith) ∙ look_above d top rs p u.1 h

-- ranges that start later start also from before
pub sorted_weaken : (f g : ℕ) (rs : Row) → g ≤ f → Sorted f rs → Sorted g rs
sorted_weaken f g [] h s = s
sorted_weaken f g (r ∷ rs) h s = (omega arith, s.1, s.2)
