-- The descent that is looked for stands as far behind as it does from here.
use Prim.Native.Nat.{◌+◌}
use mathlib.Core.Path.{◌≡◌}
use lib.ListN.{drop}
use Rattle.look_mode_lists.specs.Counts.{descent}
use Rattle.look_mode_lists.proofs.first_descent.Given as goal

abbrev pub invariant-loop-i : goal.invariant-loop-i
invariant-loop-i l = l.i + descent l.last (drop l.i l.starts) ≡ descent 0 l.starts
