use Rattle.room_fill.proofs.Records.{flagged_put}
use Rattle.room_fill.proofs.renew.put_flagged.Goals as goal

pub returns : goal.returns
returns c = flagged_put _ _ _ _ c.requires.within c.requires.fits c.copy_words-a.ensures c.put_flags-b.ensures c.copy_words.ensures
