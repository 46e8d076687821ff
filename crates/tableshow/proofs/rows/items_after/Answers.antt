-- By the tests that the code makes.
use Rattle.tableshow.proofs.Parts.{items}
use Rattle.tableshow.proofs.rows.items_after.Goals as goal

pub returns-then-to-next : goal.returns-then-to-next
returns-then-to-next c = search items

pub returns-then-to-eq-DEAD : goal.returns-then-to-eq-DEAD
returns-then-to-eq-DEAD c = search items

pub returns : goal.returns
returns c = search items
