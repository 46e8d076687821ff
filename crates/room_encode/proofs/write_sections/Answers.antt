-- Each section starts where the one before it ends, and is written behind it.
use native.Mathlib.Omega.{arith}
use Rattle.room_encode.proofs.Writing.{lent, ends, next_order, next_within, next_rises, at_last, part_start, part_turn, part_done, ends_rise}
use Rattle.room_encode.proofs.write_sections.Goals as goal

pub loop-end-init : goal.loop-end-init
loop-end-init c = (ends_rise _ c.requires.found, part_start c.args.words.now _)

pub loop-end-preserved : goal.loop-end-preserved
loop-end-preserved c =
    let xs = ends c.args.words.now c.args.s in
    let o = next_order _ _ _ xs c.loop-end-test.true c.loop-end.invariant.0 in
    let p = next_within _ _ _ xs c.loop-end-test.true c.loop-end.invariant.0 in (
      next_rises _ _ _ xs c.loop-end-test.true c.loop-end.invariant.0,
      part_turn c.args.words.now _ _ _ o p c.requires.fits c.loop-end.invariant.1 (lent _ _ _ (omega arith) c.write_section.ensures),
    )

pub returns : goal.returns
returns c =
    let e = at_last _ _ _ (ends c.args.words.now c.args.s) c.loop-end-test.false c.loop-end.invariant.0 in
    part_done c.args.words.now _ _ e c.loop-end.invariant.1
