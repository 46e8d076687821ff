use Rattle.room_fill.proofs.Writing.{copied_put}
use Rattle.room_fill.proofs.renew.copy_words.Goals as goal

pub returns : goal.returns
returns c = copied_put _ _ _ c.requires c.copy.ensures
