-- What is judged and what is left, judged from here, give what all give.
use Prim.Native.Nat.{◌-◌}
use mathlib.Core.Path.{◌≡◌}
use mathlib.Core.Bool.{◌&&◌}
use lib.ListN.{length}
use Rattle.rule_words.specs.Rules.{both_good, each_word}
use Rattle.rule_rows.proofs.words_are_good.Given as goal

abbrev pub invariant-loop-x : goal.invariant-loop-x
invariant-loop-x l = (l.all && each_word (both_good l.states) l.words (length l.words - l.x-index) l.x-index) ≡ each_word (both_good l.states) l.words (length l.words) 0
