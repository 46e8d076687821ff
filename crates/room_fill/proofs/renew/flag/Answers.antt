use Rattle.room_fill.proofs.Records.{flag_is}
use Rattle.room_fill.proofs.renew.flag.Goals as goal

pub returns : goal.returns
returns c = flag_is _ c.from.ensures
