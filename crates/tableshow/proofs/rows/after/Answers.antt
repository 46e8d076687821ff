-- By the tests that the code makes.
use Rattle.tableshow.proofs.Parts.{items}
use Rattle.tableshow.proofs.rows.after.Goals as goal

pub returns-then-items-lt3 : goal.returns-then-items-lt3
returns-then-items-lt3 c = search items

pub returns : goal.returns
returns c = search items
