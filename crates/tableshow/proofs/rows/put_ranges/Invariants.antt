-- By the law of every loop that shows: the ranges that are left, shown from here, give what all of them give.
use Rattle.std.proofs.Common.{◌+◌, ◌-◌, ◌*◌}
use Rattle.tableshow.specs.Rows.{ranges_from}
use Rattle.program_io.proofs.Shows.{Coming}
use Rattle.tableshow.proofs.rows.put_ranges.Given as goal

abbrev pub invariant-loop-i : goal.invariant-loop-i
invariant-loop-i l = Coming (ranges_from l.kind l.room l.count (l.at + 1) 0) l.initial.page.at l.initial.page.bytes (ranges_from l.kind l.room (l.count - l.i) (l.at + 1 + 3 * l.i) l.items) l.page.at l.page.bytes
