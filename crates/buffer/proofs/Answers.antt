-- `said` takes no two answers to one: what it says gives the answer back. Assumes nothing.
use mathlib.Core.Path.{◌≡◌, refl, sym, ap, ◌∙◌}
use Prim.Native.Nat.{ℕ}
use lib.ListN.{get_or}
use Rattle.std.specs.Prelude.{Result, Ok, Err}
use Rattle.refusal.specs.declared.Refusal.{Refusal}
use Rattle.refusal.specs.Said.{Said, ok, no_by}
use Rattle.buffer.specs.Written.{said}

abbrev back : Said → Result ℕ Refusal
back (ok l) = Ok (get_or l 0 0)
back (no_by r) = Err r

back-said : (x : Result ℕ Refusal) → back (said x) ≡ x
back-said (Ok n) = refl
back-said (Err r) = refl

pub said_one : (x y : Result ℕ Refusal) → said x ≡ said y → x ≡ y
said_one x y e = sym (back-said x) ∙ ap back e ∙ back-said y
