-- By the law of every loop that counts the records that pass.
use Prim.Native.Nat.{◌-◌}
use mathlib.Core.Path.{◌≡◌}
use Rattle.rule_words.specs.Rules.{passing}
use Rattle.rule_walk.specs.Questions.{asked_at, passes}
use Rattle.rule_walk.proofs.count_passing.Given as goal

abbrev pub invariant-loop-number : goal.invariant-loop-number
invariant-loop-number l = passing (passes l.question l.words) (asked_at l.question l.words) l.number (l.count - l.number) l.here ≡ passing (passes l.question l.words) (asked_at l.question l.words) 0 l.count l.at
