-- The contract determines the answer, since it is an equation. Assumes nothing.
use mathlib.Core.Path.{sym, ◌∙◌}
use seplogic.Ra.Ura.{Ura}
use base.Logic.{SProp}
use prog.Memory.{Memory}
use prog.Routine.{Routine}
use types.Logic.{Logic}
use contract.Monad.{Fun}
use Rattle.law_unique.specs.Walked.{DeterminesWalked}
use Rattle.law_unique.proofs.Facts.{agree}
use Rattle.word_serialized.specs.contracts.read_opening as read-opening

module _ {M : Type 1} {𝓤 : Ura M} (𝓛 : Logic 𝓤) (mem : Memory → SProp 𝓤) (run : Routine → Fun 𝓤) where
  pub read_opening_unique : DeterminesWalked 𝓤 read-opening.ended (read-opening.clauses 𝓛 mem run)
  read_opening_unique κs a g x y e f = agree 𝓤 _ _ _ (λ p q. p ∙ sym q)
