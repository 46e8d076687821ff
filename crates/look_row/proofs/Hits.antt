-- What is said of a search takes no two answers to one. Assumes nothing.
use Prim.Native.Nat.{ℕ}
use mathlib.Core.Path.{◌≡◌, refl, sym, ap, ◌∙◌}
use mathlib.Core.List.{List, [], ◌∷◌}
use lib.Dec.{eqb}
use Rattle.refusal.specs.Said.{Said, ok, no_by, STATE}
use Rattle.refusal.specs.Lists.{pick}
use Rattle.std.specs.Prelude.{Option, Some, None, Result, Ok, Err}
use Rattle.room_find.specs.declared.Missing.{Missing}
use Rattle.room_find.specs.declared.Missing.TheVariants.{Absent, Outside}
use Rattle.look_row.specs.Search.{said}

-- `said` takes no two answers to one: what it says gives the answer back
abbrev list_back : List ℕ → Option ℕ
list_back [] = None
list_back (t ∷ l) = Some t

abbrev back : Said → Result (Option ℕ) Missing
back (ok l) = Ok (list_back l)
back (no_by r) = pick (eqb r.number STATE) (Err Absent) (Err Outside)

back-said : (x : Result (Option ℕ) Missing) → back (said x) ≡ x
back-said (Ok (Some t)) = refl
back-said (Ok None) = refl
back-said (Err Absent) = refl
back-said (Err Outside) = refl

pub said_one : (x y : Result (Option ℕ) Missing) → said x ≡ said y → x ≡ y
said_one x y e = sym (back-said x) ∙ ap back e ∙ back-said y
