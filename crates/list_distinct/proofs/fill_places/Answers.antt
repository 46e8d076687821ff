-- The masks, and then the distinct ones with the places, where the list is accepted.
use Rattle.std.proofs.lemmas.Result.{err_from_is_err_and}
use Rattle.list_distinct.proofs.PlaceAnswers.{filling}
use Rattle.list_distinct.proofs.fill_places.Goals as goal

pub put_distinct-d-requires : goal.put_distinct-d-requires
put_distinct-d-requires c = search (filling, c.in_ok-matrix.was)

pub returns-in_err-matrix : goal.returns-in_err-matrix
returns-in_err-matrix c =
    let p = err_from_is_err_and c.from_residual.result c.from_residual.ensures.1 in
    rw (p.1, p.2) (search (filling, c.in_err-matrix.was))

pub returns : goal.returns
returns c = search (filling, c.in_ok-matrix.was)
