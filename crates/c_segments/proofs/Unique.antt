-- The call of the C face for segments determines its answer and what it leaves in the lent buffer, since its contract is an equation for each. Assumes nothing.
use mathlib.Core.Path.{sym, ◌∙◌}
use Rattle.c_segments.proofs.lexer_dfa_char_segments.Reads as char-segments
use Rattle.law_unique.specs.Unique.{DeterminesBoth}

pub c_char_segments_unique : DeterminesBoth (λ κs e. e.1.0) char-segments.Learnt
c_char_segments_unique κs a x y e f p q = (p.0 ∙ sym q.0, p.1 ∙ sym q.1)
