-- By the law of every walk over records that a reader finds: what is left, judged from here, gives what all gives.
use Prim.Native.Nat.{ℕ, ◌-◌}
use mathlib.Core.Path.{◌≡◌}
use mathlib.Core.Bool.{Bool}
use lib.ListN.{get_or}
use Rattle.word_reader.specs.Records.{config_at}
use Rattle.rule_words.specs.Rules.{every_in}
use Rattle.rule_words.proofs.Laws.{rest}
use Rattle.rule_contexts.specs.Asked.{Tells}
use Rattle.rule_contexts.proofs.configs_pass.Given as goal

abbrev pub invariant-loop : goal.invariant-loop
invariant-loop g l =
    goal.F-IsAlwaysCallable g l.passes
    × ((test : ℕ → Bool) → Tells (goal.F-post g l.passes) test
    → rest test (config_at l.words) (get_or l.words l.at 0 - l.counter) l.here ≡ every_in config_at test l.words l.at)
