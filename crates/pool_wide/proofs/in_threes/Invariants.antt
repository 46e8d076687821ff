-- What is left of the row is good where all of it is.
use Prim.Native.Nat.{◌%◌}
use mathlib.Core.Path.{◌≡◌}
use lib.ListN.{length}
use Rattle.std.specs.Slice.Iter.{chunks_exact_rest, chunks_exact_size}
use Rattle.pool_rows.specs.Pools.{in_threes}
use Rattle.pool_wide.proofs.in_threes.Given as goal

abbrev pub invariant-loop-range : goal.invariant-loop-range
invariant-loop-range l =
    (chunks_exact_size l.range-iterator ≡ 3) × (goal.iterator-loop-range).is_finite l.range-iterator
    × (in_threes (chunks_exact_rest l.range-iterator) ≡ in_threes l.row)
    × (length (chunks_exact_rest l.range-iterator) % 3 ≡ length l.row % 3)
