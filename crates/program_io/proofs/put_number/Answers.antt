-- The digits that are put are those of the number.
use Rattle.program_io.proofs.Shows.{numbers}
use Rattle.program_io.proofs.put_number.Goals as goal

pub returns : goal.returns
returns c = search numbers
