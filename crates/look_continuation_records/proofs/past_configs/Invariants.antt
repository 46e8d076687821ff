-- The configs that are left, from here, end where all of them do.
use Prim.Native.Nat.{◌-◌, ◌≤◌}
use mathlib.Core.Path.{◌≡◌}
use Rattle.look_continuation_records.specs.Configs.{past_configs}
use Rattle.look_continuation_records.proofs.past_configs.Given as goal

abbrev pub invariant-loop : goal.invariant-loop
invariant-loop l = (past_configs l.room l.end (l.count - l.counter) l.here ≡ past_configs l.room l.end l.count l.at) × (l.here ≤ l.end)
