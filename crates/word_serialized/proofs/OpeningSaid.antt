-- `opening_said` takes no two answers to one: what it says gives the answer back. Assumes nothing.
use mathlib.Core.Path.{◌≡◌, refl, sym, ap, ◌∙◌}
use lib.ListN.{get_or}
use Rattle.std.specs.Prelude.{ℕ, Result, Ok, Err}
use Rattle.refusal.specs.declared.Refusal.{Refusal}
use Rattle.refusal.specs.Said.{Said, ok, no_by}
use Rattle.word_serialized.specs.Opened.{opening_said}

abbrev back : Said → Result ℕ Refusal
back (ok l) = Ok (get_or l 0 0)
back (no_by r) = Err r

back-said : (x : Result ℕ Refusal) → back (opening_said x) ≡ x
back-said (Ok n) = refl
back-said (Err r) = refl

pub opening_said_one : (x y : Result ℕ Refusal) → opening_said x ≡ opening_said y → x ≡ y
opening_said_one x y e = sym (back-said x) ∙ ap back e ∙ back-said y
