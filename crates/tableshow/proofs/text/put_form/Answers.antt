use Rattle.tableshow.proofs.Filling.{letters}
use Rattle.tableshow.proofs.text.put_form.Goals as goal

pub overflow_add-i : goal.overflow_add-i
overflow_add-i c = search letters

pub loop-byte-smaller : goal.loop-byte-smaller
loop-byte-smaller c = search letters

pub loop-byte-preserved : goal.loop-byte-preserved
loop-byte-preserved c = search letters

pub returns : goal.returns
returns c = search letters
