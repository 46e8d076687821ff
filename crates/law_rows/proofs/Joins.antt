-- JOIN LAW: joining touching ranges of one goal changes no answer, and leaves no two ranges that touch. Assumes nothing.
use Prim.Native.Nat.{ℕ, suc, ◌≤◌, ◌<◌}
use mathlib.Core.Path.{◌≡◌, refl, sym, ◌∙◌}
use mathlib.Core.Logic.{◌⊎◌, inl, inr, ⊎_elim}
use mathlib.Core.Bool.{Bool, true, false}
use mathlib.Core.List.{[], ◌∷◌}
use native.Mathlib.Omega.{arith}
use lib.Dec.{eqb}
use borrow.Author.Tests.{eqb-true, eqb-false}
use Rattle.law_tables.specs.Table.{Range}
use Rattle.law_lookups.specs.Looks.{goal_at}
use Rattle.list_transitions.proofs.Order.{le_or_lt}
use Rattle.law_rows.specs.Row.{Row, touches, grown, join_to, join, Sorted, Each}
use Rattle.law_rows.proofs.Searches.{Upto, look_hit, look_gap, look_past}

-- the test `touch` as a fact
abbrev pub Touch : Range → Range → Type 0
Touch a r = (suc a.high ≡ r.low) × (a.goal ≡ r.goal)

pub touch_or_not : (a r : Range) → ((touches a r ≡ true) × Touch a r) ⊎ ((touches a r ≡ false) × (Touch a r → ⊥))
touch_or_not a r = go (eqb (suc a.high) r.low) refl (eqb a.goal r.goal) refl
  where
    go : (s : Bool) → eqb (suc a.high) r.low ≡ s → (t : Bool) → eqb a.goal r.goal ≡ t →
        ((touches a r ≡ true) × Touch a r) ⊎ ((touches a r ≡ false) × (Touch a r → ⊥))
    go true e true f = inl (rw (e, f), (eqb-true _ _ e, eqb-true _ _ f))
    go true e false f = inr (rw (e, f), λ h. eqb-false _ _ f h.1)
    go false e t f = inr (rw e, λ h. eqb-false _ _ e h.0)

-- a and r touching, the grown range answers as the two do
look_grown : (d : ℕ) (a r : Range) (rs : Row) (p : ℕ) → a.low ≤ a.high → r.low ≤ r.high → Touch a r →
    goal_at d (grown a r ∷ rs) p ≡ goal_at d (a ∷ r ∷ rs) p
look_grown d a r rs p la lr t = ⊎_elim first later (le_or_lt p a.high)
  where
    first : p ≤ a.high → goal_at d (grown a r ∷ rs) p ≡ goal_at d (a ∷ r ∷ rs) p
    first h =
        ⊎_elim
        (λ l. look_hit d (grown a r) rs p l (omega arith) ∙ sym (look_hit d a (r ∷ rs) p l h))
        (λ l. look_gap d (grown a r) rs p l (omega arith) ∙ sym (look_gap d a (r ∷ rs) p l h))
        (le_or_lt a.low p)

    later : a.high < p → goal_at d (grown a r ∷ rs) p ≡ goal_at d (a ∷ r ∷ rs) p
    later h =
        ⊎_elim
        (λ l. look_hit d (grown a r) rs p (omega arith) l ∙ t.1 ∙ sym (look_hit d r rs p (omega arith) l) ∙ sym (look_past d a (r ∷ rs) p h))
        (λ l. look_past d (grown a r) rs p l ∙ sym (look_past d r rs p l) ∙ sym (look_past d a (r ∷ rs) p h))
        (le_or_lt p r.high)

-- under a first range, rows that answer alike answer alike
look_cons : (d : ℕ) (a : Range) (rs ss : Row) (p : ℕ) → goal_at d rs p ≡ goal_at d ss p → goal_at d (a ∷ rs) p ≡ goal_at d (a ∷ ss) p
unfolding goal_at
look_cons d a rs ss p e = rw e

look_join_to : (d : ℕ) (from : ℕ) (a : Range) (rs : Row) (p : ℕ) → Sorted from (a ∷ rs) → goal_at d (join_to a rs) p ≡ goal_at d (a ∷ rs) p
unfolding join_to
look_join_to d from a [] p s = refl
look_join_to d from a (r ∷ rs) p s =
    ⊎_elim
    (λ t. rw t.0 (look_join_to d from (grown a r) rs p (omega arith, omega arith, s.2.2) ∙ look_grown d a r rs p s.1 s.2.1 t.1))
    (λ t. rw t.0 (look_cons d a (join_to r rs) (r ∷ rs) p (look_join_to d (suc a.high) r rs p s.2)))
    (touch_or_not a r)

-- JOIN LAW: joining changes no answer
pub look_join : (d : ℕ) (from : ℕ) (rs : Row) (p : ℕ) → Sorted from rs → goal_at d (join rs) p ≡ goal_at d rs p
unfolding join
look_join d from [] p s = refl
look_join d from (r ∷ rs) p s = look_join_to d from r rs p s

-- no range touches the next
abbrev pub Apart : Range → Row → Type 0
Apart a [] = Unit {0}
Apart a (r ∷ rs) = Touch a r → ⊥

abbrev pub Maximal : Row → Type 0
Maximal [] = Unit {0}
Maximal (r ∷ rs) = Apart r rs × Maximal rs

-- every goal is another than d
abbrev pub Live : ℕ → Row → Type 0
Live d rs = Each (λ r. r.goal ≡ d → ⊥) rs

-- what is known of a built row, in one: sorted from `from`, maximal, live
pub record Canonical (d from : ℕ) (rs : Row) : Type 0 where
  pub sorted : Sorted from rs
  pub maximal : Maximal rs
  pub live : Live d rs

sorted_join_to : (from : ℕ) (a : Range) (rs : Row) → Sorted from (a ∷ rs) → Sorted from (join_to a rs)
unfolding join_to
sorted_join_to from a [] s = s
sorted_join_to from a (r ∷ rs) s =
    ⊎_elim
    (λ t. rw t.0 (sorted_join_to from (grown a r) rs (omega arith, omega arith, s.2.2)))
    (λ t. rw t.0 (s.0, s.1, sorted_join_to (suc a.high) r rs s.2))
    (touch_or_not a r)

pub each-join_to : (P : Range → Type 0) → ((a r : Range) → P a → P r → P (grown a r)) → (a : Range) (rs : Row) → Each P (a ∷ rs) → Each P (join_to a rs)
unfolding join_to
each-join_to P g a [] s = s
each-join_to P g a (r ∷ rs) s =
    ⊎_elim
    (λ t. rw t.0 (each-join_to P g (grown a r) rs (g a r s.0 s.1.0, s.1.1)))
    (λ t. rw t.0 (s.0, each-join_to P g r rs s.1))
    (touch_or_not a r)

-- the join of a ∷ rs begins where a does, with its answer
apart_join_to : (b a : Range) (rs : Row) → (Touch b a → ⊥) → Apart b (join_to a rs)
unfolding join_to
apart_join_to b a [] n = n
apart_join_to b a (r ∷ rs) n =
    ⊎_elim
    (λ t. rw t.0 (apart_join_to b (grown a r) rs n))
    (λ t. rw t.0 n)
    (touch_or_not a r)

maximal_join_to : (a : Range) (rs : Row) → Maximal (join_to a rs)
unfolding join_to
maximal_join_to a [] = (tt, tt)
maximal_join_to a (r ∷ rs) =
    ⊎_elim
    (λ t. rw t.0 (maximal_join_to (grown a r) rs))
    (λ t. rw t.0 (apart_join_to a r rs t.1, maximal_join_to r rs))
    (touch_or_not a r)

pub join_canonical : (d from : ℕ) (rs : Row) → Sorted from rs → Live d rs → Canonical d from (join rs)
unfolding join
join_canonical d from [] s l = record { sorted = tt; maximal = tt; live = tt }
join_canonical d from (r ∷ rs) s l =
    record { sorted = sorted_join_to from r rs s; maximal = maximal_join_to r rs; live = each-join_to (λ r. r.goal ≡ d → ⊥) (λ a r u v. u) r rs l }

pub upto_join : (top : ℕ) (rs : Row) → Upto top rs → Upto top (join rs)
unfolding join
upto_join top [] u = u
upto_join top (r ∷ rs) u = each-join_to (λ r. r.high ≤ top) (λ a r u v. v) r rs u
