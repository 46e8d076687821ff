-- `range_class::see_range` meets its contract. The loop's invariant: what was seen, with what there is in the bytes from here to the
-- high, is what there is in all. The measure is how many bytes are left. Assumes nothing.
use Prim.Native.Nat.{suc, ◌<◌, ◌-◌}
use mathlib.Core.Path.{◌≡◌}
use Rattle.run_ranges.specs.Ranges.{range}
use Rattle.run_class.specs.Class.{bytes_in}
use Rattle.run_class.specs.Seen.{both, seen_in}
use Rattle.run_class.proofs.see_range.Given as goal

abbrev pub invariant-loop-byte : goal.invariant-loop-byte
invariant-loop-byte l = (l.high < 256) × (both l.seen (seen_in (bytes_in (range l.byte l.high))) ≡ both l.initial.seen (seen_in (bytes_in (range l.initial.byte l.high))))

abbrev pub decreases-loop-byte : goal.decreases-loop-byte
decreases-loop-byte l = suc l.high - l.byte
