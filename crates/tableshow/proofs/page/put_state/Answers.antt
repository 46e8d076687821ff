-- The parts are put one behind the other, by the tests that the code makes.
use Rattle.tableshow.proofs.Shows.{shows}
use Rattle.tableshow.proofs.page.put_state.Goals as goal

pub returns : goal.returns
returns c = search shows
