-- The search's invariant: what is found from here is what is found in all.
use Rattle.refusal.specs.Lists.{before}
use Rattle.run_ranges.specs.Ranges.{exits_at}
use Prim.Native.Nat.{◌+◌}
use mathlib.Core.Path.{◌≡◌}
use lib.ListN.{drop}
use Rattle.run_classify.proofs.next_exit.Given as goal

abbrev pub invariant-loop-symbol : goal.invariant-loop-symbol
invariant-loop-symbol l = l.symbol + before (exits_at l.fn.state) (drop l.symbol l.fn.row) ≡ l.fn.from + before (exits_at l.fn.state) (drop l.fn.from l.fn.row)
