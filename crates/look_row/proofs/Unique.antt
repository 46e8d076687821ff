-- The contract determines the answer, since it is an equation. Assumes nothing.
use mathlib.Core.Path.{sym, ◌∙◌}
use seplogic.Ra.Ura.{Ura}
use base.Logic.{SProp}
use prog.Memory.{Memory}
use prog.Routine.{Routine}
use types.Logic.{Logic}
use contract.Monad.{Fun}
use Rattle.law_unique.specs.Walked.{DeterminesWalked}
use Rattle.law_unique.proofs.Facts.{agree}
use Rattle.look_row.specs.contracts.wide_target as wide_target_lem

module _ {M : Type 1} {𝓤 : Ura M} (𝓛 : Logic 𝓤) (mem : Memory → SProp 𝓤) (run : Routine → Fun 𝓤) where
  pub wide_target_unique : DeterminesWalked 𝓤 wide_target_lem.ended (wide_target_lem.clauses 𝓛 mem run)
  wide_target_unique κs a g x y e f = agree 𝓤 _ _ _ (λ p q. p ∙ sym q)
