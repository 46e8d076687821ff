-- Of both sections that have flags.
use Rattle.room_judge.proofs.Comparing.{all-flags}
use Rattle.room_judge.proofs.laid.Laid.flags_are_plain.Goals as goal

pub returns : goal.returns
returns c = search all-flags
