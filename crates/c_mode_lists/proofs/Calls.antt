-- What the C face answers of flags and state counts of modes follows from what the lookup says. Assumes nothing.
use Prim.Native.Nat.{ℕ}
use mathlib.Core.Path.{◌≡◌, ◌∙◌, ap}
use mathlib.Core.List.{List}
use borrow.Author.Rules.{rules}
use Rattle.buffer.specs.Written.{said}
use Rattle.look_mode_lists.specs.Written.{Wrote, Writes, wrote_said, left_in}
use Rattle.c_value.specs.declared.CWritten.{CWritten}
use Rattle.c_value.specs.Written.{written_in_c}
use Rattle.std.specs.Prelude.{Result}
use Rattle.refusal.specs.declared.Refusal.{Refusal}

-- what is written, and what is left in the buffer
module _ {x : Result ℕ Refusal} {n : ℕ} {out : List ℕ} (g : Wrote) where
  pub listed_says : {r : CWritten} → Writes x n out g → r ≡ written_in_c (said x) → r ≡ written_in_c (wrote_said g)
  listed_says w h = h ∙ ap written_in_c w.says

  pub listed_leaves : Writes x n out g → out ≡ left_in n g
  listed_leaves w = w.leaves

pub ruleset looking = (rules, listed_says, listed_leaves)
