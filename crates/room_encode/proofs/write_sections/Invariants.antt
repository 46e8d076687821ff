-- The words before the section that comes next are written, and the ends that are left follow it.
use mathlib.Core.Path.{◌≡◌}
use lib.ListN.{length, take, drop}
use Rattle.buffer.specs.Over.{lay}
use Rattle.room_encode.proofs.Writing.{Rising}
use Rattle.room_encode.proofs.write_sections.Given as goal

abbrev pub invariant-loop-end : goal.invariant-loop-end
invariant-loop-end l = Rising l.at (drop l.end-index l.end-items) (length l.words) × (l.out ≡ lay 0 (take l.at l.words) l.initial.out)
