-- The words from i on are the same where all are.
use mathlib.Core.Path.{◌≡◌}
use lib.ListN.{drop}
use Rattle.refusal.specs.Lists.{same_list}
use Rattle.list_distinct.proofs.same.Given as goal

abbrev pub invariant-loop-i : goal.invariant-loop-i
invariant-loop-i l = same_list (drop l.i l.one) (drop l.i l.other) ≡ same_list l.one l.other
