-- A byte is stored where the page has a place for it.
use Rattle.program_io.proofs.Shows.{bytes}
use Rattle.program_io.proofs.put_byte.Goals as goal

pub returns-then-n-page : goal.returns-then-n-page
returns-then-n-page c = search bytes

pub returns : goal.returns
returns c = search bytes
