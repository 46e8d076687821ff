-- Decoding in the C face determines its answer and what it leaves in the room, since its contract is an equation for each. Assumes nothing.
use mathlib.Core.Path.{sym, ◌∙◌}
use Rattle.c_decode.proofs.lexer_dfa_decode.Reads as decode
use Rattle.law_unique.specs.Unique.{DeterminesBoth}

pub c_decode_unique : DeterminesBoth (λ κs e. e.1.0) decode.Learnt
c_decode_unique κs a x y e f p q = (p.0 ∙ sym q.0, p.1 ∙ sym q.1)
