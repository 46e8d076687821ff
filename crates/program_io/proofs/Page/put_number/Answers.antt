use Rattle.program_io.proofs.Shows.{paging}
use Rattle.program_io.proofs.Page.put_number.Goals as goal

pub invariant_of-self : goal.invariant_of-self
invariant_of-self g c = search paging
