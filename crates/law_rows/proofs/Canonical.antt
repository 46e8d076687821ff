-- CANONICITY: a row that was joined, and in which every goal lives, is determined by its answers. Assumes nothing.
use Prim.Native.Nat.{ℕ, suc, ◌≤◌}
use mathlib.Core.Path.{◌≡◌, refl, sym, ap₂, ◌∙◌}
use mathlib.Core.Logic.{⊎_elim}
use mathlib.Core.List.{[], ◌∷◌}
use native.Mathlib.Omega.{arith}
use Rattle.law_tables.specs.Table.{Range}
use Rattle.law_lookups.specs.Looks.{goal_at}
use Rattle.list_transitions.proofs.Order.{le_or_lt}
use Rattle.law_rows.specs.Row.{Row, Sorted}
use Rattle.law_rows.proofs.Searches.{Upto, look_hit, look_gap, look_past, look_below, look_above}
use Rattle.law_rows.proofs.Joins.{Apart, Maximal, Live, Canonical}

range_ext : (a b : Range) → a.low ≡ b.low → a.high ≡ b.high → a.goal ≡ b.goal → a ≡ b
range_ext a b l h v = λ i. record { low = l i; high = h i; goal = v i }

-- right after its first range a maximal live row does not answer with that range's value
look_next : (d : ℕ) (a : Range) (rs : Row) → Sorted (suc a.high) rs → Apart a rs → (a.goal ≡ d → ⊥) →
    goal_at d rs (suc a.high) ≡ a.goal → ⊥
unfolding goal_at
look_next d a [] s n l e = l (sym e)
look_next d a (r ∷ rs) s n l e =
    ⊎_elim
    (λ h. n (omega arith, sym e ∙ look_hit d r rs (suc a.high) h (omega arith)))
    (λ h. l (sym e ∙ look_gap d r rs (suc a.high) h (omega arith)))
    (le_or_lt r.low (suc a.high))

-- rows that answer alike: the first range of one starts no earlier than that of the other ..
low_le : (d f g : ℕ) (a b : Range) (rs ss : Row) → Sorted f (a ∷ rs) → Sorted g (b ∷ ss) → (a.goal ≡ d → ⊥) →
    ((p : ℕ) → goal_at d (a ∷ rs) p ≡ goal_at d (b ∷ ss) p) → b.low ≤ a.low
low_le d f g a b rs ss s t l e =
    ⊎_elim
    (λ h. h)
    (λ h. absurd (l (sym (look_hit d a rs a.low (omega arith) s.1) ∙ e a.low ∙ look_gap d b ss a.low h (omega arith))))
    (le_or_lt b.low a.low)

-- .. and ends no earlier
high_le : (d f g : ℕ) (a b : Range) (rs ss : Row) → Sorted f (a ∷ rs) → Sorted g (b ∷ ss) → Apart a rs → (a.goal ≡ d → ⊥) →
    a.low ≡ b.low → a.goal ≡ b.goal →
    ((p : ℕ) → goal_at d (a ∷ rs) p ≡ goal_at d (b ∷ ss) p) → b.high ≤ a.high
high_le d f g a b rs ss s t n l lo va e =
    ⊎_elim
    (λ h. h)
    (λ h. absurd (look_next d a rs s.2 n l
    (sym (look_past d a rs (suc a.high) (omega arith)) ∙ e (suc a.high) ∙ look_hit d b ss (suc a.high) (omega arith) h ∙ sym va)))
    (le_or_lt b.high a.high)

pub same_sorted : (d f g : ℕ) (rs ss : Row) → Sorted f rs → Maximal rs → Live d rs → Sorted g ss → Maximal ss → Live d ss →
    ((p : ℕ) → goal_at d rs p ≡ goal_at d ss p) → rs ≡ ss
unfolding goal_at
same_sorted d f g [] [] s m l s' m' l' e = refl
same_sorted d f g [] (b ∷ ss) s m l s' m' l' e = absurd (l'.0 (sym (e b.low ∙ look_hit d b ss b.low (omega arith) s'.1)))
same_sorted d f g (a ∷ rs) [] s m l s' m' l' e = absurd (l.0 (sym (look_hit d a rs a.low (omega arith) s.1) ∙ e a.low))
same_sorted d f g (a ∷ rs) (b ∷ ss) s m l s' m' l' e =
    let lo : a.low ≡ b.low =
    omega (arith, low_le d f g a b rs ss s s' l.0 e, low_le d g f b a ss rs s' s l'.0 (λ p. sym (e p))) in
    let va : a.goal ≡ b.goal =
    sym (look_hit d a rs a.low (omega arith) s.1) ∙ e a.low ∙ look_hit d b ss a.low (omega arith) (omega arith) in
    let hi : a.high ≡ b.high =
    omega (
      arith,
      high_le d f g a b rs ss s s' m.0 l.0 lo va e,
      high_le d g f b a ss rs s' s m'.0 l'.0 (sym lo) (sym va) (λ p. sym (e p)),
    ) in
    let rest : (p : ℕ) → goal_at d rs p ≡ goal_at d ss p =
    λ p.
    ⊎_elim
    (λ h. look_below d (suc a.high) rs p s.2 (omega arith) ∙ sym (look_below d (suc b.high) ss p s'.2 (omega arith)))
    (λ h. sym (look_past d a rs p h) ∙ e p ∙ look_past d b ss p (omega arith))
    (le_or_lt p a.high) in
    ap₂ {C = Row} (λ x xs. x ∷ xs) (range_ext a b lo hi va)
    (same_sorted d (suc a.high) (suc b.high) rs ss s.2 m.1 l.1 s'.2 m'.1 l'.1 rest)

-- CANONICITY: of two canonical rows from `from` to `top` that answer alike at each point from `from` to `top`, one is the other
pub canonical_unique : (d from top : ℕ) (rs ss : Row) → Canonical d from rs → Canonical d from ss → Upto top rs → Upto top ss →
    ((p : ℕ) → from ≤ p → p ≤ top → goal_at d rs p ≡ goal_at d ss p) → rs ≡ ss
canonical_unique d from top rs ss c c' u u' e =
    same_sorted d from from rs ss c.sorted c.maximal c.live c'.sorted c'.maximal c'.live
    (λ p.
    ⊎_elim
    (λ l.
    ⊎_elim
    (λ h. e p l h)
    (λ h. look_above d top rs p u h ∙ sym (look_above d top ss p u' h))
    (le_or_lt p top))
    (λ l. look_below d from rs p c.sorted l ∙ sym (look_below d from ss p c'.sorted l))
    (le_or_lt from p))
