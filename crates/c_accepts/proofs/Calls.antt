-- What the C face answers of an accept follows from what the call says. Assumes nothing.
use mathlib.Core.Path.{◌≡◌, refl, ◌∙◌, ap}
use mathlib.Core.Bool.{Bool, true, false}
use mir.Val.{bool_byte}
use borrow.Author.Rules.{rules}
use Rattle.refusal.specs.Said.{Said}
use Rattle.refusal.specs.Lists.{pick}
use Rattle.look_accepts.specs.declared.AcceptRecord.{AcceptRecord}
use Rattle.std.specs.Prelude.{Result, Ok, Err}
use Rattle.room_find.specs.declared.Missing.{Missing}
use Rattle.room_find.specs.declared.Missing.TheVariants.{Absent, Outside}
use Rattle.look_accepts.specs.Record.{said}
use Rattle.c_accepts.specs.declared.CAccept.{CAccept}
use Rattle.c_accepts.specs.Answers.{no_accept, accept_in_c}

-- in C an answer is what it says, and it says what the call's contract has it say
pub accept_in_c_lem : {s : Said} (t : Said) {r : CAccept} → s ≡ t → r ≡ accept_in_c s → r ≡ accept_in_c t
accept_in_c_lem t e h = h ∙ ap accept_in_c e

-- each case of an answer, in C
module _ {a : Result AcceptRecord Missing} where
  pub accept-there : {t : AcceptRecord} → a ≡ Ok t
      → record { number = 0; found = 1; rule = t.rule; consumed_eof = bool_byte t.consumed_eof; actions = t.actions } ≡ accept_in_c (said a)
  accept-there {t} e = rw e (flag t.consumed_eof)
    where
      flag : (b : Bool) → ◌≡◌ {A = CAccept} (record { number = 0; found = 1; rule = t.rule; consumed_eof = bool_byte b; actions = t.actions })
          (record { number = 0; found = 1; rule = t.rule; consumed_eof = pick b 1 0; actions = t.actions })
      flag true = refl
      flag false = refl

  pub accept-none : a ≡ Err Absent → no_accept 0 ≡ accept_in_c (said a)
  accept-none e = rw e

  pub accept-no : a ≡ Err Outside → no_accept 9 ≡ accept_in_c (said a)
  accept-no e = rw e

pub ruleset calling = (rules, accept_in_c_lem, accept-there, accept-none, accept-no)
