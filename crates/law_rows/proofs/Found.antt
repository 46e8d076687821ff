-- The search of the rows here is the lookups' own: over a row that stands anywhere in a list of numbers, `found` (room_read) gives what `goal_at` gives, of wide
-- and escape rows alike. Assumes nothing.
use Prim.Native.Nat.{ℕ, ◌+◌}
use mathlib.Core.Path.{◌≡◌, refl}
use mathlib.Core.Bool.{Bool, true, false}
use mathlib.Core.List.{List, [], ◌∷◌, ◌++◌}
use lib.Dec.{leb}
use lib.ListN.{length, get_or}
use Rattle.refusal.specs.Lists.{pick, each}
use Rattle.law_tables.specs.Table.{range_words}
use Rattle.std.specs.Prelude.{Some, None, Ok}
use Rattle.look_row.specs.Search.{found, given}
use Rattle.law_tables.proofs.Codec.{At, on, at_head}
use Rattle.law_lookups.specs.Looks.{goal_at}
use Rattle.law_rows.specs.Row.{Row, numbers}

-- rs stands in w from `at` on, x is a symbol, and d is what is given where no range holds it
pub found_is : (d : ℕ) (w : List ℕ) (x at : ℕ) (rs : Row) (post : List ℕ) → At w at (numbers rs ++ post) →
    given (Ok (found w x (length rs) at)) (λ t. t) d d ≡ goal_at d rs x
unfolding found given goal_at each
found_is d w x at [] post a = refl
found_is d w x at (r ∷ rs) post a =
    let high : get_or w (at + 1) 0 ≡ r.high = at_head (on (r.low ∷ []) _ a) in
    let goal : get_or w (at + 2) 0 ≡ r.goal = at_head (on (r.low ∷ r.high ∷ []) _ a) in
    rw (at_head a, high, goal) (go (leb x r.high) (leb r.low x) (found_is d w x (at + 3) rs post (on (range_words r) (each range_words rs ++ post) a)))
  where
    go : (b c : Bool) → given (Ok (found w x (length rs) (at + 3))) (λ t. t) d d ≡ goal_at d rs x
        → given (Ok (pick b (pick c (Some r.goal) None) (found w x (length rs) (at + 3)))) (λ t. t) d d ≡ pick b (pick c r.goal d) (goal_at d rs x)
    go true true e = refl
    go true false e = refl
    go false c e = e
