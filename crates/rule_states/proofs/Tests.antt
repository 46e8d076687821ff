-- The tests of a state and of an accept, by the words that were read. Assumes nothing.
use Prim.Native.Nat.{ℕ, ◌+◌}
use mathlib.Core.Path.{◌≡◌, ◌∙◌}
use mathlib.Core.List.{List}
use mathlib.Core.Bool.{Bool, ◌&&◌}
use lib.ListN.{get_or}
use borrow.Author.Rules.{rules}
use Rattle.rule_words.specs.Rules.{good, none_or, present, state_good}
use Rattle.rule_words.specs.Flags.{plain, accept_plain}

module _ (w : List ℕ) (at : ℕ) where
  pub state_tested : (ns na nv nx : ℕ) {x y z u : ℕ} {p q r s : Bool} → p ≡ present na x → x ≡ get_or w at 0 → q ≡ present nv y → y ≡ get_or w (at + 1) 0
      → r ≡ good ns z → z ≡ get_or w (at + 2) 0 → s ≡ none_or nx u → u ≡ get_or w (at + 3) 0 → p && (q && (r && s)) ≡ state_good ns na nv nx w at
  unfolding state_good
  state_tested ns na nv nx d e f g h i j k = rw (d, e, f, g, h, i, j, k)

  pub accept_tested : {x : ℕ} {r : Bool} → r ≡ plain x → x ≡ get_or w (at + 1) 0 → r ≡ accept_plain w at
  unfolding accept_plain
  accept_tested d e = d ∙ (rw e)

pub ruleset testing = (rules, state_tested, accept_tested)
