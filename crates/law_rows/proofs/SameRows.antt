-- DEMAND 3, last part: two builds that answer the same target and continuation at every point have the same rows, number for number; and built rows are
-- searchable, as a table's must be. Assumes nothing.
use Prim.Native.Nat.{ℕ, suc, ◌≤◌, ◌<◌}
use mathlib.Core.Path.{◌≡◌, sym, ap, ◌∙◌}
use mathlib.Core.List.{List, [], ◌∷◌}
use native.Mathlib.Omega.{arith}
use lib.Seq.{ext_get_or}
use borrow.Author.Tests.{lt-ltb, le-ltb}
use Rattle.refusal.specs.Fixed.{NONE, DEAD-STATE}
use Rattle.law_tables.specs.Rules.{Searchable}
use Rattle.list_transitions.specs.Transition.{Transition}
use Rattle.law_lookups.specs.Looks.{goal_at}
use Rattle.law_rows.specs.Row.{Row, part_from, numbers, Sorted}
use Rattle.law_rows.specs.Build.{target_of, cont_of, target_row, cont_row, ascii_of, wide_of, escape_of}
use Rattle.law_rows.specs.Demand.{SameAnswers, SameRows}
use Rattle.law_rows.proofs.Searches.{Upto}
use Rattle.law_rows.proofs.Joins.{Canonical, join_canonical, upto_join}
use Rattle.law_rows.proofs.Canonical.{canonical_unique}
use Rattle.law_rows.proofs.Parts.{sorted_part, each_part, length-values}
use Rattle.law_rows.proofs.Built.{sorted_row, live_row, upto_row}

-- What every built row is

module _ (ts : List Transition) (targets : List ℕ) where
  wide_canonical : Canonical DEAD-STATE 128 (wide_of ts targets)
  wide_canonical =
      join_canonical DEAD-STATE 128 (part_from 128 (target_row ts targets))
      (sorted_part 0 128 (target_row ts targets) (sorted_row ts DEAD-STATE (target_of ts targets)))
      (each_part (λ r. r.goal ≡ DEAD-STATE → ⊥) 128 (λ r u. u) (target_row ts targets) (live_row ts DEAD-STATE (target_of ts targets)))

  wide_upto : Upto 1114111 (wide_of ts targets)
  wide_upto =
      upto_join 1114111 (part_from 128 (target_row ts targets))
      (each_part (λ r. r.high ≤ 1114111) 128 (λ r u. u) (target_row ts targets) (upto_row ts DEAD-STATE (target_of ts targets)))

  module _ (conts : List ℕ) where
    escape_canonical : Canonical NONE 0 (escape_of ts targets conts)
    escape_canonical = join_canonical NONE 0 (cont_row ts targets conts) (sorted_row ts NONE (cont_of ts targets conts))
        (live_row ts NONE (cont_of ts targets conts))

    escape_upto : Upto 1114111 (escape_of ts targets conts)
    escape_upto = upto_join 1114111 (cont_row ts targets conts) (upto_row ts NONE (cont_of ts targets conts))

-- "Searchable: low at most high, each high below the next low"
searchable : (from : ℕ) (rs : Row) → Sorted from rs → Searchable rs
unfolding Searchable
searchable from [] s = tt
searchable from (r ∷ []) s = s.1
searchable from (r ∷ next ∷ rs) s = (s.1, s.2.0, searchable (suc r.high) (next ∷ rs) s.2)

pub wide_searchable : (ts : List Transition) (targets : List ℕ) → Searchable (wide_of ts targets)
wide_searchable ts targets = searchable 128 (wide_of ts targets) (wide_canonical ts targets).sorted

pub escape_searchable : (ts : List Transition) (targets conts : List ℕ) → Searchable (escape_of ts targets conts)
escape_searchable ts targets conts = searchable 0 (escape_of ts targets conts) (escape_canonical ts targets conts).sorted

-- THEOREM
pub same_rows : (ts us : List Transition) (targets others conts others' : List ℕ) → SameAnswers ts us targets others conts others' →
    SameRows ts us targets others conts others'
same_rows ts us targets others conts others' e =
    record {
      ascii =
          ext_get_or 0 (ascii_of ts targets) (ascii_of us others) (length-values _ 0 128 ∙ sym (length-values _ 0 128))
          (λ i h.
          let k : i < 128 = omega (arith, length-values (goal_at DEAD-STATE (target_row ts targets)) 0 128) in
          rw (lt-ltb i 128 k) at (e.targets_same i (omega arith)));
      wide =
          ap numbers
          (canonical_unique DEAD-STATE 128 1114111 (wide_of ts targets) (wide_of us others) (wide_canonical ts targets) (wide_canonical us others)
          (wide_upto ts targets) (wide_upto us others) (λ p l h. rw (le-ltb p 128 l) at (e.targets_same p (omega arith))));
      escape =
          ap numbers
          (canonical_unique NONE 0 1114111 (escape_of ts targets conts) (escape_of us others others') (escape_canonical ts targets conts)
          (escape_canonical us others others')
          (escape_upto ts targets conts) (escape_upto us others others') (λ p l h. e.conts_same p (omega arith)));
    }
