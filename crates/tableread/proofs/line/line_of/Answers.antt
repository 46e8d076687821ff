-- The longest line has 66 bytes.
use Rattle.std.proofs.Common.{rules, refl}
use Rattle.tableread.proofs.Lines.{answering, no_line}
use Rattle.tableread.proofs.line.line_of.Goals as goal

pub returns-in-Ok : goal.returns-in-Ok
returns-in-Ok c = search answering

pub returns-in-Err : goal.returns-in-Err
returns-in-Err c = no_line c.line_with-in-Err.ensures c.in-Err.is (search rules) (search rules) refl
