-- What the call with places leaves, without them.
use Rattle.std.proofs.lemmas.Result.{err_from_is_err_and}
use Rattle.list_distinct.proofs.DistinctAnswers.{distincts}
use Rattle.list_distinct.proofs.distinct_masks.Goals as goal

pub returns-in_err-found : goal.returns-in_err-found
returns-in_err-found c =
    let p = err_from_is_err_and c.from_residual.result c.from_residual.ensures.1 in
    rw (p.1, p.2) (search (distincts, c.in_err-found.was))

pub returns : goal.returns
returns c = search (distincts, c.in_ok-found.was)
