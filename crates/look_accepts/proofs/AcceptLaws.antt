-- What is said of an accept's record takes no two answers to one. Assumes nothing.
use Prim.Native.Nat.{ℕ}
use mathlib.Core.Path.{◌≡◌, refl, sym, ap, ◌∙◌}
use mathlib.Core.List.{List, [], ◌∷◌}
use lib.Dec.{eqb}
use lib.ListN.{get_or}
use Rattle.refusal.specs.Said.{Said, ok, no_by}
use Rattle.refusal.proofs.Flags.{flag-back}
use Rattle.std.specs.Prelude.{Result, Ok, Err}
use Rattle.room_find.specs.declared.Missing.{Missing}
use Rattle.room_find.specs.declared.Missing.TheVariants.{Absent, Outside}
use Rattle.look_accepts.specs.declared.AcceptRecord.{AcceptRecord}
use Rattle.look_accepts.specs.Record as of-record

-- what it says gives the answer back
abbrev list_back : List ℕ → Result AcceptRecord Missing
list_back [] = Err Absent
list_back (rule ∷ l) = Ok (record { rule = rule; consumed_eof = eqb (get_or l 0 0) 1; actions = get_or l 1 0 })

abbrev record_back : Said → Result AcceptRecord Missing
record_back (ok l) = list_back l
record_back (no_by r) = Err Outside

record_back_said : (x : Result AcceptRecord Missing) → record_back (of-record.said x) ≡ x
record_back_said (Ok a) = rw (flag-back a.consumed_eof)
record_back_said (Err Absent) = refl
record_back_said (Err Outside) = refl

pub record_said_one : (x y : Result AcceptRecord Missing) → of-record.said x ≡ of-record.said y → x ≡ y
record_said_one x y e = sym (record_back_said x) ∙ ap record_back e ∙ record_back_said y
