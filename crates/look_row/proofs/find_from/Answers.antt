use Prim.Native.Nat.{◌+◌, ◌-◌}
use mathlib.Core.Path.{◌≡◌}
use native.Mathlib.Omega.{arith}
use Rattle.look_row.proofs.Searches.{hit, gap, past, over}
use Rattle.look_row.proofs.find_from.Goals as goal

pub returns-then-room-here : goal.returns-then-room-here
returns-then-room-here c =
    hit c.args.room.now c.args.x (c.args.count - c.loop.counter) c.loop.here (omega arith) (omega arith) (omega arith) c.loop.invariant.0

pub returns-then-x-room : goal.returns-then-x-room
returns-then-x-room c =
    gap c.args.room.now c.args.x (c.args.count - c.loop.counter) c.loop.here (omega arith) (omega arith) (omega arith) c.loop.invariant.0

pub loop-preserved : goal.loop-preserved
loop-preserved c =
    let p = past c.args.room.now c.args.x (c.args.count - c.loop.counter) c.loop.here (omega arith) (omega arith) c.loop.invariant.0 in
    let e : c.args.count - c.loop.counter - 1 ≡ c.args.count - (c.loop.counter + 1) = omega arith in
    (rw e at p, omega arith)

pub returns : goal.returns
returns c = over c.args.room.now c.args.x (c.args.count - c.loop.counter) c.loop.here (omega arith) c.loop.invariant.0
