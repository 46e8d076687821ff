use native.Mathlib.Omega.{arith}
use Rattle.look_mode_lists.proofs.Walks.{descending, descent_here, descent-none, descent_found, descent_missing}
use Rattle.look_mode_lists.proofs.first_descent.Goals as goal

pub returns-then-start-last : goal.returns-then-start-last
returns-then-start-last c =
    let l = c.loop-i in
    descent_found c.args.starts.now l.i (omega arith) (descent_here c.args.starts.now l.i l.i l.last l.invariant (omega arith) (omega arith))

pub loop-i-preserved : goal.loop-i-preserved
loop-i-preserved c = search descending

pub returns : goal.returns
returns c =
    let r = descent-none c.args.starts.now c.loop-i.i c.loop-i.i c.loop-i.last c.loop-i.invariant (omega arith) in
    descent_missing c.args.starts.now (omega (arith, r))
