-- Uniqueness ("each public function's contract determines the result and every lent number after the call") of a call that is walked by hand. What its contract
-- says of an answer, as it is generated from the source's clauses, is an assertion of the logic and no type: of two answers that it allows to one call, at one
-- memory, the logic says that they are equal. Assumes nothing.
use Rattle.std.specs.Prelude.{◌≡◌}
use seplogic.Ra.Ura.{Ura}
use base.Logic.{ent}
use contract.Lifetimes.{Lfts}
use contract.Monad.{conj, fact}
use denote.Triple.Entry.{Args, Res}
use denote.Triple.Clauses.{Ended, Clauses, AtExit}

module _ {M : Type 1} (𝓤 : Ura M) (T : Ended) where
  abbrev pub DeterminesWalked : Clauses 𝓤 T → Type 1
  DeterminesWalked C =
      (κs : Lfts T.signature.lifetimes) (a : Args T.signature κs) (g : (C κs a).ghost) (x y : Res T.signature κs) (e f : AtExit T κs)
      → ent 𝓤 (conj 𝓤 ((C κs a).ensures g x e) ((C κs a).ensures g y f)) (fact 𝓤 (x ≡ y))

  -- where the call changes what it is lent: so is what `lent` takes from the arguments at exit
  abbrev pub DeterminesWalkedBoth : {L : Type 0} → ((κs : Lfts T.signature.lifetimes) → AtExit T κs → L) → Clauses 𝓤 T → Type 1
  DeterminesWalkedBoth lent C =
      (κs : Lfts T.signature.lifetimes) (a : Args T.signature κs) (g : (C κs a).ghost) (x y : Res T.signature κs) (e f : AtExit T κs)
      → ent 𝓤 (conj 𝓤 ((C κs a).ensures g x e) ((C κs a).ensures g y f)) (fact 𝓤 ((x ≡ y) × (lent κs e ≡ lent κs f)))
