-- Four bytes, the least first.
use Rattle.std.proofs.Common.{arith, ap, ◌∙◌}
use Prim.Native.Nat.{ℕ}
use Rattle.list_transitions.specs.Transition.{key}
use Rattle.list_transitions.specs.Bytes.{number_at}
use Rattle.list_masks.proofs.records.number_at.Goals as goal

pub returns : goal.returns
unfolding number_at
returns c = (c.from.ensures ∙ ap (λ (n : ℕ). key n) (omega (arith, c.from_le_bytes-word.ensures)), omega arith)
