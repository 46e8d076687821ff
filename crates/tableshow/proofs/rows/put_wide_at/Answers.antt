-- What was shown is the text of the numbers that calls answered.
use Rattle.tableshow.proofs.Parts.{parts}
use Rattle.tableshow.proofs.rows.put_wide_at.Goals as goal

pub returns-then-first-state : goal.returns-then-first-state
returns-then-first-state c = search parts

pub returns-then-word_at-eq0 : goal.returns-then-word_at-eq0
returns-then-word_at-eq0 c = search parts

pub returns : goal.returns
returns c = search parts
