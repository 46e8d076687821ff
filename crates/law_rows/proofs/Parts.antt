-- PARTING LAW: from k on, the part of a row from k on answers as the row; and the list of what is given at each point. Assumes nothing.
use Prim.Native.Nat.{ℕ, zero, suc, ◌+◌, ◌≤◌, ◌<◌, max}
use mathlib.Core.Path.{◌≡◌, refl, sym, ap, ◌∙◌}
use mathlib.Core.Logic.{⊎_elim}
use mathlib.Core.Bool.{Bool, true, false}
use mathlib.Core.List.{[], ◌∷◌}
use native.Mathlib.Omega.{arith}
use lib.Dec.{ltb}
use lib.ListN.{length, get_or}
use native.Mathlib.Nat.{add-zero}
use borrow.Author.Tests.{lt-ltb, le-ltb}
use Rattle.refusal.specs.Lists.{pick}
use Rattle.law_tables.specs.Table.{Range}
use Rattle.law_lookups.specs.Looks.{goal_at}
use Rattle.list_transitions.proofs.Order.{le_or_lt}
use Rattle.law_rows.specs.Row.{Row, cut_to, part_from, values, Sorted, Each}
use Rattle.law_rows.proofs.Searches.{sorted_weaken, look_hit, look_gap, look_past}

-- PARTING LAW: from k on the part answers as the whole
pub look_part : (d k : ℕ) (rs : Row) (p : ℕ) → k ≤ p → goal_at d (part_from k rs) p ≡ goal_at d rs p
unfolding part_from
look_part d k [] p h = refl
look_part d k (r ∷ rs) p h =
    ⊎_elim
    (λ s.
    rw (le-ltb r.high k s)
    (⊎_elim
    (λ l.
    ⊎_elim
    (λ g. look_hit d (cut_to k r) (part_from k rs) p (omega arith) l ∙ sym (look_hit d r rs p g l))
    (λ g. look_gap d (cut_to k r) (part_from k rs) p (omega arith) l ∙ sym (look_gap d r rs p g l))
    (le_or_lt r.low p))
    (λ l. look_past d (cut_to k r) (part_from k rs) p l ∙ look_part d k rs p h ∙ sym (look_past d r rs p l))
    (le_or_lt p r.high)))
    (λ s. rw (lt-ltb r.high k s) (look_part d k rs p h ∙ sym (look_past d r rs p (omega arith))))
    (le_or_lt k r.high)

pub sorted_part : (from k : ℕ) (rs : Row) → Sorted from rs → Sorted (max from k) (part_from k rs)
unfolding part_from
sorted_part from k [] s = tt
sorted_part from k (r ∷ rs) s =
    let rest : Sorted (max (suc r.high) k) (part_from k rs) = sorted_part (suc r.high) k rs s.2 in
    ⊎_elim
    (λ h. rw (le-ltb r.high k h) (omega arith, omega arith, sorted_weaken (max (suc r.high) k) (suc r.high) (part_from k rs) (omega arith) rest))
    (λ h. rw (lt-ltb r.high k h) (sorted_weaken (max (suc r.high) k) (max from k) (part_from k rs) (omega arith) rest))
    (le_or_lt k r.high)

-- a fact of every range survives parting
pub each_part : (P : Range → Type 0) (k : ℕ) → ((r : Range) → P r → P (cut_to k r)) → (rs : Row) → Each P rs → Each P (part_from k rs)
unfolding part_from
each_part P k g [] l = l
each_part P k g (r ∷ rs) l = go (ltb r.high k) (each_part P k g rs l.1)
  where
    go : (t : Bool) → Each P (part_from k rs) → Each P (pick t (part_from k rs) (cut_to k r ∷ part_from k rs))
    go true w = w
    go false w = (g r l.0, w)

-- What f gives, point by point

pub length-values : (f : ℕ → ℕ) (base n : ℕ) → length (values f base n) ≡ n
unfolding values
length-values f base zero = refl
length-values f base (suc n) = ap suc (length-values f (suc base) n)

pub get_d_values : (f : ℕ → ℕ) (base n i e : ℕ) → i < n → get_or (values f base n) i e ≡ f (base + i)
unfolding values
get_d_values f base zero i e h = absurd (omega arith)
get_d_values f base (suc n) zero e h = rw add-zero
get_d_values f base (suc n) (suc i) e h = get_d_values f (suc base) n i e (omega arith) ∙ ap f (omega arith)
