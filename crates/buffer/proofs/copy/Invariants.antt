-- The numbers before the index are written over the front.
use mathlib.Core.Path.{◌≡◌}
use lib.ListN.{take}
use Rattle.buffer.specs.Over.{over}
use Rattle.buffer.proofs.copy.Given as goal

abbrev pub invariant-loop-i : goal.invariant-loop-i
invariant-loop-i g l = l.to ≡ over (take l.i l.from) l.initial.to
