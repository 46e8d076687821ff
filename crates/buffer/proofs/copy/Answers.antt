use native.Mathlib.Omega.{arith}
use Rattle.buffer.proofs.Overs.{copying, copy_done}
use Rattle.buffer.proofs.copy.Goals as goal

pub loop-i-init : goal.loop-i-init
loop-i-init g c = search copying

pub loop-i-preserved : goal.loop-i-preserved
loop-i-preserved g c = search copying

pub returns : goal.returns
returns g c = copy_done _ _ _ c.loop-i.invariant (omega arith)
