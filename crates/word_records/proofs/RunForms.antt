-- An ASCII row in the form in which code tests: so many words are there. Assumes nothing.
use Prim.Native.Nat.{ℕ}
use mathlib.Core.Path.{◌≡◌, refl}
use mathlib.Core.List.{List}
use Rattle.std.specs.Prelude.{Ok}
use Rattle.word_reader.specs.Parse.{block}
use Rattle.word_reader.specs.Records.{ascii_at}
use Rattle.word_reader.proofs.Laws.{ahead}

pub ascii_form : (w : List ℕ) (at : ℕ) → ascii_at w at ≡ ahead w 64 at Ok
unfolding block ahead
ascii_form w at = refl
