-- By the law of every walk over records of a fixed size: what is left, judged from here, gives what all gives.
use Prim.Native.Nat.{ℕ, ◌+◌, ◌*◌, ◌-◌}
use mathlib.Core.Path.{◌≡◌}
use mathlib.Core.Bool.{Bool, ◌&&◌}
use Rattle.rule_words.specs.Rules.{searchable, thirds}
use Rattle.rule_rows.specs.Thirds.{Tells}
use Rattle.rule_rows.proofs.Tests.{ranges_good}
use Rattle.rule_rows.proofs.ranges_are_good.Given as goal

abbrev pub invariant-loop : goal.invariant-loop
invariant-loop g l =
    goal.F-IsAlwaysCallable g l.passes
    × ((test : ℕ → Bool) → Tells (goal.F-post g l.passes) test
    → ranges_good test l.words l.from (l.count - l.counter) l.here ≡ (searchable l.words 0 l.count l.at && thirds test l.words l.count l.at))
    × (l.here ≡ l.at + 3 * l.counter)
