-- The states that are left hold the first one, or the loop has it.
use Rattle.std.proofs.Common.{◌≡◌, ◌-◌}
use Rattle.tableshow.specs.Rows.{first_with}
use Rattle.tableshow.proofs.rows.first_with.Given as goal

abbrev pub invariant-loop-t : goal.invariant-loop-t
invariant-loop-t l = first_with l.room l.row (l.state - l.t) l.t ≡ first_with l.room l.row l.state 0
