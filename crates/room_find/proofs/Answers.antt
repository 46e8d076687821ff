-- What is said of a state takes no two answers to one: it gives the answer back. Assumes nothing.
use Prim.Native.Nat.{ℕ}
use mathlib.Core.Path.{◌≡◌, refl, sym, ap, ◌∙◌}
use lib.Dec.{eqb}
use lib.ListN.{get_or}
use Rattle.std.specs.Prelude.{Result, Ok, Err}
use Rattle.refusal.specs.Said.{Said, ok, no_by, STATE}
use Rattle.refusal.specs.Lists.{pick}
use Rattle.room_find.specs.declared.Missing.{Missing}
use Rattle.room_find.specs.declared.Missing.TheVariants.{Absent, Outside}
use Rattle.room_find.specs.Answer.{said}

abbrev back : Said → Result ℕ Missing
back (ok l) = Ok (get_or l 0 0)
back (no_by r) = pick (eqb r.number STATE) (Err Absent) (Err Outside)

back-said : (x : Result ℕ Missing) → back (said x) ≡ x
back-said (Ok n) = refl
back-said (Err Absent) = refl
back-said (Err Outside) = refl

pub said_one : (x y : Result ℕ Missing) → said x ≡ said y → x ≡ y
said_one x y e = sym (back-said x) ∙ ap back e ∙ back-said y
