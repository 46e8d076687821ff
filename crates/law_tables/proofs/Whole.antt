-- The words of a whole table as they are read: the tag, then the eight sections, one behind the other. Assumes nothing.
use Prim.Native.Nat.{ℕ}
use mathlib.Core.List.{List}
use lib.Dec.{eqb}
use Rattle.refusal.specs.Said.{TAG}
use Rattle.refusal.specs.Fixed.{tag}
use Rattle.refusal.specs.Lists.{pick}
use Rattle.word_reader.specs.Parse.{Place}
use Rattle.word_reader.specs.Parse.{refused, word, section, both}
use Rattle.word_reader.specs.Records.{mode_at, state_at, run_at, ascii_at, wide_at, accept_at, escape_at, continuation_at}

-- the eight sections
unfoldable pub sections_at : List ℕ → ℕ → Place
sections_at =
    both (section mode_at)
    (both (section state_at)
    (both (section run_at)
    (both (section ascii_at)
    (both (section wide_at)
    (both (section accept_at)
    (both (section escape_at)
    (section continuation_at)))))))

unfoldable pub whole_at : List ℕ → Place
whole_at w = word w 0 (λ x. pick (eqb x tag) (sections_at w 1) (refused TAG 0))
