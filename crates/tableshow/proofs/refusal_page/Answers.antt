-- What was shown from the front on is the page.
use Rattle.program_io.proofs.Shows.{pages}
use Rattle.tableshow.proofs.refusal_page.Goals as goal

pub returns : goal.returns
returns c = search pages
