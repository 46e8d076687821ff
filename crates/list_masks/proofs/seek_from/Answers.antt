-- By the tests on the way.
use Rattle.list_masks.proofs.Holds.{seeks, seek_hint}
use Rattle.list_masks.proofs.seek_from.Goals as goal

pub returns-then-high_at-q : goal.returns-then-high_at-q
returns-then-high_at-q c = seek_hint _ _ _ _ _ c.requires (search seeks) (search seeks) c.high_at.ensures.0 (search seeks)
