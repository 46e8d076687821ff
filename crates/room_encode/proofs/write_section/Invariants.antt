-- What is left of the section, laid from here, gives what all of it gives.
use mathlib.Core.Path.{◌≡◌}
use lib.ListN.{length, drop}
use Rattle.buffer.specs.Over.{over, lay}
use Rattle.room_encode.proofs.write_section.Given as goal

abbrev pub invariant-loop-i : goal.invariant-loop-i
invariant-loop-i l = (lay l.i (drop l.i l.section) l.out ≡ over l.section l.initial.out) × (length l.out ≡ length l.initial.out)
