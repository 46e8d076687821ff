-- What the C face answers of a continuation follows from what the call says. Assumes nothing.
use mathlib.Core.Path.{◌≡◌, ◌∙◌, ap}
use borrow.Author.Rules.{rules}
use Rattle.refusal.specs.Said.{Said}
use Rattle.look_continuation_records.specs.declared.ContinuationRecord.{ContinuationRecord}
use Rattle.std.specs.Prelude.{Result, Ok, Err}
use Rattle.room_find.specs.declared.Missing.{Missing}
use Rattle.room_find.specs.declared.Missing.TheVariants.{Absent, Outside}
use Rattle.look_continuation_records.specs.Configs.{said}
use Rattle.c_continuations.specs.declared.CContinuation.{CContinuation}
use Rattle.c_continuations.specs.Answers.{no_continuation, continuation_in_c}

-- in C an answer is what it says, and it says what the call's contract has it say
pub continuation_in_c_lem : {s : Said} (t : Said) {r : CContinuation} → s ≡ t → r ≡ continuation_in_c s → r ≡ continuation_in_c t
continuation_in_c_lem t e h = h ∙ ap continuation_in_c e

-- each case of an answer, in C
module _ {a : Result ContinuationRecord Missing} where
  pub continuation-there : {t : ContinuationRecord} → a ≡ Ok t
      → record { number = 0; found = 1; contexts = t.contexts; configs = t.configs } ≡ continuation_in_c (said a)
  continuation-there e = rw e

  pub continuation-none : a ≡ Err Absent → no_continuation 0 ≡ continuation_in_c (said a)
  continuation-none e = rw e

  pub continuation-no : a ≡ Err Outside → no_continuation 9 ≡ continuation_in_c (said a)
  continuation-no e = rw e

pub ruleset calling = (rules, continuation_in_c_lem, continuation-there, continuation-none, continuation-no)
