-- The list is refused where it is, or for what was asked; else its masks have their places.
use Rattle.std.proofs.lemmas.Result.{err_from_is_err_and}
use Rattle.row_build.proofs.Asking.{asking}
use Rattle.row_build.proofs.place_for_rows.Goals as goal

pub returns-in-Some : goal.returns-in-Some
returns-in-Some c = search (asking, c.in_ok-found.was)

pub returns-in_err-found : goal.returns-in_err-found
returns-in_err-found c =
    let p = err_from_is_err_and c.from_residual.result c.from_residual.ensures.1 in
    rw (p.1, p.2) (search (asking, c.in_err-found.was))

pub returns : goal.returns
returns c = search (asking, c.in_ok-found.was)
