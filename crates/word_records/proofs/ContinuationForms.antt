-- A context in the form in which code tests: three words are there, then the kind is judged. Assumes nothing.
use Prim.Native.Nat.{ℕ, ◌+◌, ◌<◌}
use native.Mathlib.Omega.{arith}
use mathlib.Core.Path.{◌≡◌, refl}
use mathlib.Core.List.{List}
use mathlib.Core.Bool.{Bool, true, false}
use lib.Dec.{leb}
use lib.ListN.{length, get_or, take, drop}
use lib.Seq.{drop-cons}
use borrow.Author.Tests.{leb-true}
use Rattle.refusal.specs.Said.{FIELD}
use Rattle.refusal.specs.Lists.{pick}
use Rattle.std.specs.Prelude.{Ok}
use Rattle.word_reader.specs.Parse.{short, refused, block}
use Rattle.word_reader.specs.Records.{context_at, good_context}
use Rattle.word_reader.proofs.Laws.{ahead}

pub context_form : (w : List ℕ) (at : ℕ) → context_at w at ≡ ahead w 3 at (λ q. pick (leb (get_or w at 0) 1) (Ok q) (refused FIELD at))
unfolding block ahead good_context
context_form w at = go (leb (at + 3) (length w)) refl
  where
    go : (b : Bool) → leb (at + 3) (length w) ≡ b
        → pick b (pick (leb (get_or (take 3 (drop at w)) 0 0) 1) (Ok (at + 3)) (refused FIELD at)) (short w)
        ≡ pick b (pick (leb (get_or w at 0) 1) (Ok (at + 3)) (refused FIELD at)) (short w)
    go true u = let h : at < length w = omega (arith, leb-true (at + 3) (length w) u) in rw (drop-cons w at 0 h)
    go false u = refl
