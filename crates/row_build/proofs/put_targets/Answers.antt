-- Dead targets to the range, then its own.
use native.Mathlib.Omega.{arith}
use Rattle.row_build.proofs.Parting.{two_fills}
use Rattle.row_build.proofs.put_targets.Goals as goal

pub returns : goal.returns
returns c =
    two_fills _ _ _ _ _ c.requires.order c.requires.fits c.edge-start.ensures (omega (arith, c.edge-end.ensures, c.saturating_add.ensures))
    (c.fill.ensures.after (λ y e. e)) (c.fill-2.ensures.after (λ y e. e))
