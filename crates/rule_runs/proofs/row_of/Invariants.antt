-- The loop's invariant is Unpacked: the targets of the words passed, and behind them those of the words left, are all; the rest of the row is 0.
use Prim.Native.Nat.{◌+◌}
use Rattle.rule_runs.proofs.Rows.{Unpacked}
use Rattle.rule_runs.proofs.row_of.Given as goal

abbrev pub invariant-loop-i : goal.invariant-loop-i
invariant-loop-i l = Unpacked l.words (l.ascii_rows + l.start) l.there l.row l.i
