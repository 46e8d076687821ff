use Rattle.rule_walk.proofs.Asking.{listing}
use Rattle.rule_walk.proofs.all_pass.Goals as goal

pub returns : goal.returns
returns c = search listing
