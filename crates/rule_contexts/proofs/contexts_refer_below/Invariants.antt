-- By the law of every walk over records of a fixed size: what is left, judged from here, gives what all gives.
use Prim.Native.Nat.{◌+◌, ◌*◌, ◌-◌}
use mathlib.Core.Path.{◌≡◌}
use Rattle.rule_words.specs.Rules.{below}
use Rattle.rule_contexts.proofs.contexts_refer_below.Given as goal

abbrev pub invariant-loop-number : goal.invariant-loop-number
invariant-loop-number l = (below l.words (l.number + 1) (l.fn.count - l.number) l.here ≡ below l.words 1 l.fn.count l.fn.at) × (l.here ≡ l.fn.at + 3 * l.number)
