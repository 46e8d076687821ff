-- The digits that are put are those of the number.
use Rattle.tableshow.proofs.Parts.{hexes}
use Rattle.tableshow.proofs.text.hex_digit.Goals as goal

pub returns-then-digit-lt10 : goal.returns-then-digit-lt10
returns-then-digit-lt10 c = search hexes

pub returns : goal.returns
returns c = search hexes
