-- Those before the index that are compiled are counted, and are no more than there are.
use Rattle.std.proofs.Common.{◌≡◌, ◌≤◌, take, count_by}
use Rattle.look_modes.specs.Start.{compiled}
use Rattle.look_mode_lists.proofs.compiled_count.Given as goal

abbrev pub invariant-loop-start : goal.invariant-loop-start
invariant-loop-start l = (l.count ≡ count_by compiled (take l.start-index l.starts)) × (l.count ≤ l.start-index)
