-- The ranges from here on give what the whole row gives.
use mathlib.Core.Path.{◌≡◌}
use lib.ListN.{drop}
use Rattle.look_row.specs.Ranges.{target_in}
use Rattle.look_row.proofs.wide_target.Given as goal

abbrev pub invariant-loop-i : goal.invariant-loop-i
invariant-loop-i l = target_in (drop l.i l.row) l.symbol ≡ target_in l.row l.symbol
