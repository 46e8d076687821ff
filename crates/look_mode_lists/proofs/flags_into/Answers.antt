use Rattle.look_mode_lists.proofs.Flags.{listing}
use Rattle.look_mode_lists.proofs.flags_into.Goals as goal

pub returns : goal.returns
returns c = search listing
