-- The buffers are cleared, and filled where nothing is refused.
use Rattle.std.proofs.lemmas.Result.{err_from_is_err_and}
use Rattle.row_build.proofs.Building.{building}
use Rattle.row_build.proofs.build_rows.Goals as goal

pub fill_rows-requires : goal.fill_rows-requires
fill_rows-requires c = search (building, c.in_ok-found.was)

pub returns-in_err-found : goal.returns-in_err-found
returns-in_err-found c =
    let p = err_from_is_err_and c.from_residual.result c.from_residual.ensures.1 in
    rw (p.1, p.2) (search (building, c.in_err-found.was))

pub returns : goal.returns
returns c = search (building, c.in_ok-found.was)
