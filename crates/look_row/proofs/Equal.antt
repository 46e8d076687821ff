-- "equal to the search over numbers", by the contracts of the two calls alone: what `wide_target` answers for a row is the target of what
-- `search_row` answers on any room in which the row's numbers stand. Assumes nothing.
use Prim.Native.Nat.{ℕ}
use mathlib.Core.Path.{◌≡◌, sym, ap, ◌∙◌}
use mathlib.Core.List.{List}
use seplogic.Ra.Ura.{Ura}
use base.Logic.{SProp, ent}
use prog.Memory.{Memory}
use prog.Routine.{Routine}
use types.Logic.{Logic}
use contract.Lifetimes.{Lfts}
use contract.Monad.{Fun, fact, fact_mono}
use denote.Ref.{Bor}
use denote.Triple.Clauses.{AtExit}
use Rattle.std.specs.Prelude.{Option, Result}
use Rattle.room_find.specs.declared.Missing.{Missing}
use Rattle.look_row.proofs.search_row.Reads as search-row
use Rattle.look_row.specs.declared.WideRange.{WideRange}
use Rattle.look_row.specs.Ranges.{target_of, Stands}
use Rattle.look_row.proofs.Laws.{searched_same}
use Rattle.look_row.specs.contracts.wide_target as wide_target_lem

-- what `search_row` may answer
abbrev SearchRowAnswers : Bor (List ℕ) → ℕ → ℕ → ℕ → Result (Option ℕ) Missing → Type 0
SearchRowAnswers room at end x h = (κs : Lfts 1) × (e : _) × search-row.Learnt κs (room, (at, (end, (x, tt)))) h e

module _ {M : Type 1} {𝓤 : Ura M} (𝓛 : Logic 𝓤) (mem : Memory → SProp 𝓤) (run : Routine → Fun 𝓤) where
  pub wide_target_searches : (room : Bor (List ℕ)) (at end x : ℕ) (h : Result (Option ℕ) Missing) (row : Bor (List WideRange)) → SearchRowAnswers room at end x h
      → Stands room.now at end row.now
      → (κs : Lfts 1) (t : ℕ) (e : AtExit wide_target_lem.ended κs)
      → ent 𝓤 ((wide_target_lem.clauses 𝓛 mem run κs (row, (x, tt))).ensures tt t e) (fact 𝓤 (t ≡ target_of h))
  wide_target_searches room at end x h row s p κs t e =
      fact_mono 𝓤 _ _ (λ q. q ∙ sym (searched_same room.now at end x row.now p) ∙ ap target_of (sym s.2))
