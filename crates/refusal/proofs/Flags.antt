-- A flag as a number gives the flag back. Assumes nothing.
use mathlib.Core.Path.{◌≡◌, refl}
use mathlib.Core.Bool.{Bool, true, false}
use lib.Dec.{eqb}
use Rattle.refusal.specs.Lists.{pick}

pub flag-back : (b : Bool) → eqb (pick b 1 0) 1 ≡ b
flag-back true = refl
flag-back false = refl
