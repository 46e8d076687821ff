-- One after the other.
use Rattle.row_build.proofs.Building.{preparing}
use Rattle.row_build.proofs.prepare_rows.Goals as goal

pub returns : goal.returns
returns c = search preparing
