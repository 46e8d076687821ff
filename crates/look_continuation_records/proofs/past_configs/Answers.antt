use native.Mathlib.Omega.{arith}
use Rattle.std.proofs.lemmas.Grind.{common_steps}
use Rattle.std.proofs.Common.{◌≡◌}
use Rattle.std.specs.Prelude.{Ok}
use Rattle.look_continuation_records.specs.Configs.{past_config}
use Rattle.look_continuation_records.proofs.WholeLaws.{config_passed, config_refused, configs_done}
use Rattle.look_continuation_records.proofs.past_configs.Goals as goal

pub returns-in_err-here : goal.returns-in_err-here
returns-in_err-here c = grind (
  arith,
  common_steps,
  config_refused c.args.room.now c.args.end c.args.count c.loop.counter c.loop.here c.loop.invariant.0,
)

pub loop-preserved : goal.loop-preserved
loop-preserved c =
    let k : past_config c.args.room.now c.args.end c.loop.here ≡ Ok c.in_ok-here.here = grind (arith, common_steps) in
    config_passed _ _ _ _ _ c.loop.invariant.0 (omega arith) k

pub returns : goal.returns
returns c = configs_done _ _ _ _ _ c.loop.invariant.0 (omega arith)
