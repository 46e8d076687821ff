-- The scan by a state's run in the C face determines its answer, since its contract is an equation. Assumes nothing.
use mathlib.Core.Path.{sym, ◌∙◌}
use Rattle.c_state_scan.proofs.lexer_dfa_scan_ascii_run.Reads as scan-ascii-run
use Rattle.law_unique.specs.Unique.{Determines}

pub c_scan_ascii_run_unique : Determines scan-ascii-run.Learnt
c_scan_ascii_run_unique κs a x y e f p q = p ∙ sym q
