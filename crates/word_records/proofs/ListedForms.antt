-- The records that hold a list of triples in the form in which code tests: so many words are there, then the list is read. Assumes nothing.
use Prim.Native.Nat.{ℕ, ◌+◌}
use mathlib.Core.Path.{◌≡◌}
use mathlib.Core.List.{List, []}
use lib.ListN.{get_or}
use Rattle.std.specs.Prelude.{Ok}
use Rattle.word_reader.specs.Parse.{fields, many}
use Rattle.word_reader.specs.Records.{triple_at, accept_at, escape_at, config_at}
use Rattle.word_reader.proofs.Laws.{ahead}
use Rattle.word_reader.proofs.Forms.{heads, listed}

pub triple_form : (w : List ℕ) (at : ℕ) → triple_at w at ≡ ahead w 3 at Ok
unfolding fields
triple_form w at = heads 2 [] w at

pub accept_form : (w : List ℕ) (at : ℕ) → accept_at w at ≡ ahead w 3 at (many (triple_at w) (get_or w (at + 2) 0))
accept_form w at = listed 1 triple_at w at

pub escape_form : (w : List ℕ) (at : ℕ) → escape_at w at ≡ ahead w 2 at (many (triple_at w) (get_or w (at + 1) 0))
escape_form w at = listed 0 triple_at w at

pub config_form : (w : List ℕ) (at : ℕ) → config_at w at ≡ ahead w 6 at (many (triple_at w) (get_or w (at + 5) 0))
config_form w at = listed 4 triple_at w at
