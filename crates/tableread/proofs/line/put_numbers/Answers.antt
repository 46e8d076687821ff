use Rattle.tableread.proofs.Lines.{numbers}
use Rattle.tableread.proofs.line.put_numbers.Goals as goal

pub loop-number-preserved : goal.loop-number-preserved
loop-number-preserved c = search numbers

pub returns : goal.returns
returns c = search numbers
