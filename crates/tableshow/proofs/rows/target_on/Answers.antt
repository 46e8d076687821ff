-- By the tests that the code makes.
use Rattle.tableshow.proofs.Parts.{items}
use Rattle.tableshow.proofs.rows.target_on.Goals as goal

pub returns-then-symbol-lt128 : goal.returns-then-symbol-lt128
returns-then-symbol-lt128 c = search items

pub returns : goal.returns
returns c = search items
