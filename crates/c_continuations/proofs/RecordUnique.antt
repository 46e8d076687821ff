-- Each call of the C face about a continuation determines its answer, since its contract is an equation. Assumes nothing.
use mathlib.Core.Path.{sym, ◌∙◌}
use Rattle.c_continuations.proofs.lexer_dfa_continuation_record.Reads as continuation_record
use Rattle.c_continuations.proofs.lexer_dfa_continuation_contexts.Reads as continuation_contexts
use Rattle.c_continuations.proofs.lexer_dfa_continuation_configs.Reads as continuation_configs
use Rattle.law_unique.specs.Unique.{Determines}

pub c_continuation_record_unique : Determines continuation_record.Learnt
c_continuation_record_unique κs a x y e f p q = p ∙ sym q

pub c_continuation_contexts_unique : Determines continuation_contexts.Learnt
c_continuation_contexts_unique κs a x y e f p q = p ∙ sym q

pub c_continuation_configs_unique : Determines continuation_configs.Learnt
c_continuation_configs_unique κs a x y e f p q = p ∙ sym q
