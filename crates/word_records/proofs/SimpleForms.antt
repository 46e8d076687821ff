-- Modes and states in the form in which code tests: so many words are there, then a field is judged. Assumes nothing.
use Prim.Native.Nat.{ℕ, ◌+◌}
use native.Mathlib.Omega.{arith}
use mathlib.Core.Path.{◌≡◌, refl, ap, ◌∙◌}
use mathlib.Core.List.{List, [], ◌∷◌}
use mathlib.Core.Bool.{Bool, true, false, ◌||◌}
use lib.Dec.{ltb, leb, eqb}
use lib.ListN.{length, get_or}
use Rattle.refusal.specs.Fixed.{NONE}
use Rattle.refusal.specs.Said.{FIELD}
use Rattle.refusal.specs.Lists.{pick}
use Rattle.std.specs.Prelude.{Ok}
use Rattle.word_reader.specs.Parse.{short, refused, word, fields}
use Rattle.word_reader.specs.Records.{any, target, start, mode_at, state_at}
use Rattle.word_reader.proofs.Laws.{ahead}
use Rattle.word_reader.proofs.Forms.{single, heads, last}

pub mode_form : (w : List ℕ) (at : ℕ) → mode_at w at ≡ word w at (λ x. pick (leb x 65535) (Ok (at + 1)) (pick (eqb x NONE) (Ok (at + 1)) (refused FIELD at)))
unfolding fields start word
mode_form w at = go (leb (get_or w at 0) 65535) (eqb (get_or w at 0) NONE)
  where
    go : (a b : Bool) → pick (ltb at (length w)) (pick (a || b) (Ok (at + 1)) (refused FIELD at)) (short w)
        ≡ pick (ltb at (length w)) (pick a (Ok (at + 1)) (pick b (Ok (at + 1)) (refused FIELD at))) (short w)
    go true b = refl
    go false b = refl

fourth : (w : List ℕ) (at : ℕ) → word w (at + 2 + 1) (λ x. Ok (at + 2 + 1 + 1)) ≡ ahead w 4 at Ok
unfolding ahead
fourth w at = let e : at + 2 + 1 + 1 ≡ at + 4 = omega arith in single w (at + 2 + 1) Ok ∙ (rw e)

pub state_form : (w : List ℕ) (at : ℕ) → state_at w at ≡ ahead w 3 at (λ q. pick (leb (get_or w (at + 2) 0) 65535) (ahead w 4 at Ok) (refused FIELD (at + 2)))
unfolding fields any target
state_form w at =
    heads 1 (target ∷ any ∷ []) w at
    ∙ last (λ p x. pick (leb x 65535) (word w (p + 1) (λ y. Ok (p + 1 + 1))) (refused FIELD p)) 2 w at
    ∙ ap (λ o. ahead w 3 at (λ q. pick (leb (get_or w (at + 2) 0) 65535) o (refused FIELD (at + 2)))) (fourth w at)
