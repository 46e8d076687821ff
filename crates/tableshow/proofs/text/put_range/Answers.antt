-- The parts are put one behind the other.
use Rattle.tableshow.proofs.Filling.{pieces}
use Rattle.tableshow.proofs.text.put_range.Goals as goal

pub returns-then-low-high : goal.returns-then-low-high
returns-then-low-high c = search pieces

pub returns : goal.returns
returns c = search pieces
