-- Each call of the C face about runs determines its answer, since its contract is an equation. Assumes nothing.
use mathlib.Core.Path.{sym, ◌∙◌}
use Rattle.c_runs.proofs.lexer_dfa_classify.Reads as classify
use Rattle.c_runs.proofs.lexer_dfa_read_run.Reads as read-run
use Rattle.c_runs.proofs.lexer_dfa_ascii_run.Reads as ascii_run_lem
use Rattle.law_unique.specs.Unique.{Determines}

pub c_classify_unique : Determines classify.Learnt
c_classify_unique κs a x y e f p q = p ∙ sym q

pub c_read_run_unique : Determines read-run.Learnt
c_read_run_unique κs a x y e f p q = p ∙ sym q

pub c_ascii_run_unique : Determines ascii_run_lem.Learnt
c_ascii_run_unique κs a x y e f p q = p ∙ sym q
