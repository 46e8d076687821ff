use Rattle.list_masks.proofs.Holds.{seeks, seek_hit}
use Rattle.list_masks.proofs.seek.Goals as goal

pub returns-then-q-high_at : goal.returns-then-q-high_at
returns-then-q-high_at c = seek_hit _ _ _ _ _ (search seeks) (search seeks) c.high_at.ensures.0
