use Rattle.tableshow.proofs.Parts.{firsts}
use Rattle.tableshow.proofs.rows.first_with.Goals as goal

pub returns-then-wide_row-row : goal.returns-then-wide_row-row
returns-then-wide_row-row c = search firsts

pub loop-t-preserved : goal.loop-t-preserved
loop-t-preserved c = search firsts

pub returns : goal.returns
returns c = search firsts
