-- A wide range in the form in which code tests: so many words are there, then its target is judged. Assumes nothing.
use Prim.Native.Nat.{ℕ, ◌+◌}
use native.Mathlib.Omega.{arith}
use mathlib.Core.Path.{◌≡◌, ◌∙◌}
use mathlib.Core.List.{List, [], ◌∷◌}
use lib.Dec.{leb}
use lib.ListN.{get_or}
use Rattle.refusal.specs.Said.{FIELD}
use Rattle.refusal.specs.Lists.{pick}
use Rattle.std.specs.Prelude.{Ok}
use Rattle.word_reader.specs.Parse.{refused, fields}
use Rattle.word_reader.specs.Records.{any, target, range_at}
use Rattle.word_reader.proofs.Laws.{ahead}
use Rattle.word_reader.proofs.Forms.{heads, last}

pub range_form : (w : List ℕ) (at : ℕ) → range_at w at ≡ ahead w 3 at (λ q. pick (leb (get_or w (at + 2) 0) 65535) (Ok q) (refused FIELD (at + 2)))
unfolding fields any target ahead
range_form w at =
    let e : at + 2 + 1 ≡ at + 3 = omega arith in
    heads 1 (target ∷ []) w at ∙ last (λ p x. pick (leb x 65535) (Ok (p + 1)) (refused FIELD p)) 2 w at ∙ (rw e)
