-- By the law of every loop that shows: what is left of the form, shown from here, gives what all of it gives.
use Prim.Native.Nat.{◌-◌}
use mathlib.Core.Path.{◌≡◌}
use lib.ListN.{get_or}
use Rattle.tableshow.specs.Forms.{forms, formed}
use Rattle.program_io.proofs.Shows.{Coming}
use Rattle.tableshow.proofs.text.put_form.Given as goal

abbrev pub invariant-loop-byte : goal.invariant-loop-byte
invariant-loop-byte l = (l.byte ≡ get_or forms l.i 0) × Coming (formed l.form l.a l.b l.c) l.initial.page.at l.initial.page.bytes (formed l.i l.a l.b l.c) l.page.at l.page.bytes

abbrev pub decreases-loop-byte : goal.decreases-loop-byte
decreases-loop-byte l = 1514 - l.i
