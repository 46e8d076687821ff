-- What a face of lookups answers follows from what the lookup says. Assumes nothing.
use mathlib.Core.Path.{◌≡◌, ◌∙◌, ap}
use borrow.Author.Rules.{rules}
use Rattle.refusal.specs.Said.{Said}
use Rattle.c_value.specs.declared.CValue.{CValue}
use Rattle.c_value.specs.Value.{value_in_c}

-- in C an answer is what it says, and it says what the lookup's contract has it say
pub value_in_c_lem : {s : Said} (t : Said) {r : CValue} → s ≡ t → r ≡ value_in_c s → r ≡ value_in_c t
value_in_c_lem t e h = h ∙ ap value_in_c e

-- what a call is left with that tells of a state
pub ruleset looking = (rules, value_in_c_lem)
