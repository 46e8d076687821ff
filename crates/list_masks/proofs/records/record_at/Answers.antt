use mathlib.Core.Path.{refl}
use borrow.Author.Rules.{rules}
use native.Mathlib.Omega.{arith}
use Rattle.list_masks.proofs.Words.{record_there, record_size, record_fits, record_is, record_order}
use Rattle.list_masks.proofs.records.record_at.Goals as goal

pub overflow_add-at : goal.overflow_add-at
overflow_add-at c = omega (arith, record_there _ _ c.requires refl)

pub size_at-size-requires : goal.size_at-size-requires
size_at-size-requires c = omega (arith, record_there _ _ c.requires refl)

pub bounds-list-at : goal.bounds-list-at
bounds-list-at c = omega (arith, record_there _ _ c.requires refl)

pub overflow_add-result : goal.overflow_add-result
overflow_add-result c = omega (arith, record_there _ _ c.requires refl)

pub overflow_add-result-2 : goal.overflow_add-result-2
overflow_add-result-2 c = omega (arith, record_there _ _ c.requires refl)

pub overflow_add-result-3 : goal.overflow_add-result-3
overflow_add-result-3 c = omega (arith, record_there _ _ c.requires c.size_at-size.ensures.0)

pub slice_bounds-result-end : goal.slice_bounds-result-end
slice_bounds-result-end c = search (rules, record_there _ _ c.requires c.size_at-size.ensures.0)

pub invariant_of-result : goal.invariant_of-result
invariant_of-result c = record { fits = record_fits _ _ c.requires c.size_at-size.ensures.0; order = record_order _ _ c.requires c.size_at-size.ensures.0 }

pub returns : goal.returns
returns c = record { is = record_is _ _ c.requires c.size_at-size.ensures.0; size = record_size _ _ c.requires c.size_at-size.ensures.0 }
