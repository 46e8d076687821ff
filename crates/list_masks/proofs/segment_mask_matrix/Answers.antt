-- The buffers are cleared, and filled where the list is accepted.
use Rattle.std.proofs.lemmas.Result.{err_from_is_err_and}
use Rattle.list_masks.proofs.Answers.{answering}
use Rattle.list_masks.proofs.segment_mask_matrix.Goals as goal

pub returns-then-masks-lt-WORDS : goal.returns-then-masks-lt-WORDS
returns-then-masks-lt-WORDS c = search answering

pub fill_masks-requires : goal.fill_masks-requires
fill_masks-requires c = search (answering, c.in_ok-count.was)

pub returns-in_err-count : goal.returns-in_err-count
returns-in_err-count c =
    let p = err_from_is_err_and c.from_residual.result c.from_residual.ensures.1 in
    rw (p.1, p.2) (search (answering, c.in_err-count.was))

pub returns : goal.returns
returns c = search (answering, c.in_ok-count.was)
