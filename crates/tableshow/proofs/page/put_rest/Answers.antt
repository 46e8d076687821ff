-- The parts are put one behind the other, by the tests that the code makes.
use Rattle.tableshow.proofs.Shows.{shows}
use Rattle.tableshow.proofs.page.put_rest.Goals as goal

pub returns : goal.returns
returns c = search shows
