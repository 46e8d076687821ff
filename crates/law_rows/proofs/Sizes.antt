-- SIZE LAW: a row that is joined or parted has no more ranges than before, and one more that was held; and the goals of a row are what was given. Assumes
-- nothing.
use Prim.Native.Nat.{ℕ, suc, ◌≤◌}
use mathlib.Core.Bool.{Bool, true, false}
use mathlib.Core.List.{List, [], ◌∷◌}
use native.Mathlib.Omega.{arith}
use lib.Dec.{ltb, eqb}
use lib.ListN.{length, get_or}
use Rattle.refusal.specs.Lists.{pick}
use Rattle.law_tables.specs.Table.{Range}
use Rattle.list_masks.specs.Masks.{is_zero, index}
use Rattle.law_rows.specs.Row.{Row, Each, segment, row_from, row_over, touches, grown, join_to, cut_to, part_from}
use Rattle.law_rows.specs.Build.{given}

-- How many ranges

abbrev pub Sized : ℕ → ℕ → Type 0
Sized n most = (1 ≤ n) × (n ≤ most)

pub length-join_to : (a : Range) (rs : Row) → Sized (length (join_to a rs)) (suc (length rs))
unfolding join_to
length-join_to a [] = (omega arith, omega arith)
length-join_to a (r ∷ rs) = go (touches a r) (length-join_to (grown a r) rs) (length-join_to r rs)
  where
    go : (t : Bool) → Sized (length (join_to (grown a r) rs)) (suc (length rs)) → Sized (length (join_to r rs)) (suc (length rs)) →
        Sized (length (pick t (join_to (grown a r) rs) (a ∷ join_to r rs))) (suc (suc (length rs)))
    go true h k = (omega arith, omega arith)
    go false h k = (omega arith, omega arith)

pub length_part : (k : ℕ) (rs : Row) → length (part_from k rs) ≤ length rs
unfolding part_from
length_part k [] = omega arith
length_part k (r ∷ rs) = go (ltb r.high k) (length_part k rs)
  where
    go : (t : Bool) → length (part_from k rs) ≤ length rs → length (pick t (part_from k rs) (cut_to k r ∷ part_from k rs)) ≤ suc (length rs)
    go true h = omega arith
    go false h = omega arith

-- What their goals are

each_from : (P : ℕ → Type 0) (d : ℕ) (f : ℕ → ℕ) → ((p : ℕ) → P (f p)) → (c : ℕ) (cs : List ℕ) → Each (λ r. P r.goal) (row_from d f c cs)
unfolding row_from
each_from P d f h c [] = tt
each_from P d f h c (n ∷ ns) = go (eqb (f c) d) (each_from P d f h n ns)
  where
    go : (t : Bool) → Each (λ r. P r.goal) (row_from d f n ns) → Each (λ r. P r.goal) (pick t (row_from d f n ns) (segment f c n ∷ row_from d f n ns))
    go true k = k
    go false k = (h c, k)

pub each_over : (P : ℕ → Type 0) (d : ℕ) (f : ℕ → ℕ) → ((p : ℕ) → P (f p)) → (cs : List ℕ) → Each (λ r. P r.goal) (row_over d f cs)
unfolding row_over
each_over P d f h [] = tt
each_over P d f h (c ∷ cs) = each_from P d f h c cs

pub each-given : (P : ℕ → Type 0) (d : ℕ) (ds : List (List ℕ)) (vs m : List ℕ) → P d → ((i : ℕ) → P (get_or vs i d)) → P (given d ds vs m)
unfolding given
each-given P d ds vs m h k = go (is_zero m)
  where
    go : (t : Bool) → P (pick t d (get_or vs (index ds m) d))
    go true = h
    go false = k (index ds m)
