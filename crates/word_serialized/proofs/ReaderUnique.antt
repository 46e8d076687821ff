-- Each contract determines the answer, and the reader at exit, since it is an equation for each of their parts. Assumes nothing.
use mathlib.Core.Path.{◌≡◌, sym, ap, ◌∙◌}
use mathlib.Core.List.{List}
use Prim.Native.Nat.{ℕ}
use seplogic.Ra.Ura.{Ura}
use base.Logic.{SProp}
use prog.Memory.{Memory}
use prog.Routine.{Routine}
use types.Logic.{Logic}
use contract.Monad.{Fun}
use denote.Ref.{Bor}
use Rattle.law_unique.specs.Walked.{DeterminesWalked, DeterminesWalkedBoth}
use Rattle.law_unique.proofs.Facts.{agree}
use Rattle.word_serialized.specs.declared.SerializedReader.{SerializedReader}
use Rattle.word_serialized.specs.Reader.{Moves}
use Rattle.word_serialized.specs.contracts.new as new
use Rattle.word_serialized.specs.contracts.SerializedReader.next as next
use Rattle.word_serialized.specs.contracts.SerializedReader.read_state as read-state

reader_one : (x y : SerializedReader) → x.data ≡ y.data → x.position ≡ y.position → x ≡ y
reader_one x y p q = ap (λ (d : Bor (List ℕ)). record { «data» = d; position = x.position }) p ∙ ap (λ (n : ℕ). record { «data» = y.data; position = n }) q

moves_one : {A : Type 0} (f : List ℕ → ℕ → A) (g : List ℕ → ℕ → ℕ) (h : SerializedReader) (r r' : A) (x y : SerializedReader) → Moves f g h r x
    → Moves f g h r' y → (r ≡ r') × (x ≡ y)
moves_one f g h r r' x y p q = (p.answer ∙ sym q.answer, reader_one x y (p.same ∙ sym q.same) (p.onward ∙ sym q.onward))

module _ {M : Type 1} {𝓤 : Ura M} (𝓛 : Logic 𝓤) (mem : Memory → SProp 𝓤) (run : Routine → Fun 𝓤) where
  pub new_unique : DeterminesWalked 𝓤 new.ended (new.clauses 𝓛 mem run)
  new_unique κs a g x y e f = agree 𝓤 _ _ _ (λ p q. reader_one x y (p.0 ∙ sym q.0) (p.1 ∙ sym q.1))

  pub next_unique : DeterminesWalkedBoth 𝓤 next.ended (λ κs e. e.0.now) (next.clauses 𝓛 mem run)
  next_unique κs a g x y e f = agree 𝓤 _ _ _ (moves_one _ _ a.0.now x y e.0.now f.0.now)

  pub read_state_unique : DeterminesWalkedBoth 𝓤 read-state.ended (λ κs e. e.0.now) (read-state.clauses 𝓛 mem run)
  read_state_unique κs a g x y e f = agree 𝓤 _ _ _ (moves_one _ _ a.0.now x y e.0.now f.0.now)
