-- The test at a byte is what the closure answers there.
use Rattle.std.proofs.Common.{arith}
use Rattle.refusal.proofs.Lists.{halts_by, passes_by, ends}
use Rattle.run_scan.proofs.before_first.Goals as goal

pub returns-then-stops : goal.returns-then-stops
returns-then-stops g c = λ p d.
    halts_by p c.args.input.now c.loop-place.place c.loop-place-test.true (d _ c.stops.result c.stops.ensures) c.if-stops.true (c.loop-place.invariant.1 p d)

pub loop-place-preserved : goal.loop-place-preserved
loop-place-preserved g c = (
  c.loop-place.invariant.0,
  λ p d.
      passes_by p c.args.input.now c.loop-place.place c.loop-place-test.true (d _ c.stops.result c.stops.ensures) c.if-stops.false (c.loop-place.invariant.1 p d),
)

pub returns : goal.returns
returns g c = λ p d. omega (arith, ends p c.args.input.now c.loop-place.place c.loop-place-test.false (c.loop-place.invariant.1 p d))
