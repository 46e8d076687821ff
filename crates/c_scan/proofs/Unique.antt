-- The scan by a run in the C face determines its answer, since its contract is an equation. Assumes nothing.
use mathlib.Core.Path.{sym, ◌∙◌}
use Rattle.c_scan.proofs.lexer_dfa_scan.Reads as scan
use Rattle.law_unique.specs.Unique.{Determines}

pub c_scan_unique : Determines scan.Learnt
c_scan_unique κs a x y e f p q = p ∙ sym q
