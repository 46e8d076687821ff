-- So far all are up to the limit, or not.
use Rattle.std.proofs.Common.{◌≡◌, ◌≤◌, take, length}
use Rattle.std.specs.List.{list_all}
use Rattle.look_modes.specs.Modes.{up_to}
use Rattle.look_modes.proofs.all_up_to.Given as goal

abbrev pub invariant-loop-start : goal.invariant-loop-start
invariant-loop-start l = (l.all ≡ list_all (up_to l.limit) (take l.start-index l.starts)) × (l.start-index ≤ length l.starts)
