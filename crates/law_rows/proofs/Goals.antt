-- GOAL LAW: every goal of a built row was given by the caller, so that the rows of good targets and of continuations that are present may stand in a table.
-- vs is what was given, d what a row leaves out. Assumes nothing.
use Prim.Native.Nat.{ℕ, zero, suc}
use mathlib.Core.Path.{◌≡◌, refl}
use mathlib.Core.Logic.{◌⊎◌, inl, inr, ⊎_elim}
use mathlib.Core.Bool.{Bool, true, false}
use mathlib.Core.List.{List, [], ◌∷◌}
use native.Mathlib.Omega.{arith}
use lib.Dec.{eqb}
use lib.ListN.{get_or}
use Rattle.refusal.specs.Lists.{pick}
use Rattle.refusal.specs.Fixed.{NONE, DEAD-STATE}
use Rattle.law_tables.specs.Table.{Range}
use Rattle.list_transitions.specs.Transition.{Transition}
use Rattle.list_segments.specs.Segments.{cuts_of}
use Rattle.list_masks.specs.Masks.{mask_of, distinct_of}
use Rattle.law_rows.specs.Row.{Row, Each, grown, join, part_from}
use Rattle.law_rows.specs.Build.{given, target_of, cont_of, row_of, target_row, cont_row, wide_of, escape_of}
use Rattle.law_rows.specs.Demand.{OneOf}
use Rattle.law_rows.proofs.Joins.{Live, each-join_to}
use Rattle.law_rows.proofs.Parts.{each_part}
use Rattle.law_rows.proofs.Sizes.{each_over, each-given}
use Rattle.law_rows.proofs.Built.{live_row}

-- left out, or given
abbrev Known : ℕ → List ℕ → ℕ → Type 0
Known d vs x = (x ≡ d) ⊎ OneOf vs x

known : (d : ℕ) (vs : List ℕ) (i : ℕ) → Known d vs (get_or vs i d)
known d [] i = inl refl
known d (v ∷ vs) zero = inr (0, omega arith, refl)
known d (v ∷ vs) (suc i) = ⊎_elim (λ e. inl e) (λ (o : OneOf vs (get_or vs i d)). inr (suc o.0, omega arith, o.2)) (known d vs i)

-- what a row does not leave out was given
all_given : (d : ℕ) (vs : List ℕ) (rs : Row) → Live d rs → Each (λ r. Known d vs r.goal) rs → Each (λ r. OneOf vs r.goal) rs
all_given d vs [] l k = tt
all_given d vs (r ∷ rs) l k = (⊎_elim (λ e. absurd (l.0 e)) (λ o. o) k.0, all_given d vs rs l.1 k.1)

each-join : (P : Range → Type 0) → ((a r : Range) → P a → P r → P (grown a r)) → (rs : Row) → Each P rs → Each P (join rs)
unfolding join
each-join P g [] k = k
each-join P g (r ∷ rs) k = each-join_to P g r rs k

row-given : (ts : List Transition) (d : ℕ) (v : List ℕ → ℕ) (vs : List ℕ) → ((m : List ℕ) → Known d vs (v m)) → Each (λ r. OneOf vs r.goal) (row_of d v ts)
unfolding row_of
row-given ts d v vs k =
    all_given d vs (row_of d v ts) (live_row ts d v) (each_over (Known d vs) d (λ p. v (mask_of ts p)) (λ p. k (mask_of ts p)) (cuts_of ts))

module _ (ts : List Transition) where
  known_given : (d : ℕ) (vs m : List ℕ) → Known d vs (given d (distinct_of ts) vs m)
  known_given d vs m = each-given (Known d vs) d (distinct_of ts) vs m (inl refl) (known d vs)

  known_cont : (targets conts m : List ℕ) → Known NONE conts (cont_of ts targets conts m)
  known_cont targets conts m = go (eqb (target_of ts targets m) DEAD-STATE)
    where
      go : (t : Bool) → Known NONE conts (pick t NONE (given NONE (distinct_of ts) conts m))
      go true = inl refl
      go false = known_given NONE conts m

  pub wide_given : (targets : List ℕ) → Each (λ r. OneOf targets r.goal) (wide_of ts targets)
  wide_given targets =
      each-join (λ r. OneOf targets r.goal) (λ a r u v. u) (part_from 128 (target_row ts targets))
      (each_part (λ r. OneOf targets r.goal) 128 (λ r u. u) (target_row ts targets)
      (row-given ts DEAD-STATE (target_of ts targets) targets (known_given DEAD-STATE targets)))

  pub escape_given : (targets conts : List ℕ) → Each (λ r. OneOf conts r.goal) (escape_of ts targets conts)
  escape_given targets conts =
      each-join (λ r. OneOf conts r.goal) (λ a r u v. u) (cont_row ts targets conts)
      (row-given ts NONE (cont_of ts targets conts) conts (known_cont targets conts))
