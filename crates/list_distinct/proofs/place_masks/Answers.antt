-- The buffers are cleared, and filled where they are long enough and the list is accepted.
use Rattle.list_distinct.proofs.PlaceAnswers.{placing}
use Rattle.list_distinct.proofs.place_masks.Goals as goal

pub returns-then-too_short : goal.returns-then-too_short
returns-then-too_short c = search placing

pub returns : goal.returns
returns c = search placing
