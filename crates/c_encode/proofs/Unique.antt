-- Encoding in the C face determines its answer and what it leaves in the output, since its contract is an equation for each. Assumes nothing.
use mathlib.Core.Path.{sym, ◌∙◌}
use Rattle.c_encode.proofs.lexer_dfa_encode.Reads as encode
use Rattle.law_unique.specs.Unique.{DeterminesBoth}

pub c_encode_unique : DeterminesBoth (λ κs e. e.1.0) encode.Learnt
c_encode_unique κs a x y e f p q = (p.0 ∙ sym q.0, p.1 ∙ sym q.1)
