-- The opening is decoding's own: what it refuses, decoding refuses so, by number and place;
-- and else it gives the word that the section of the modes opens with. Assumes nothing.
use Prim.Native.Nat.{ℕ}
use native.Mathlib.Omega.{arith}
use mathlib.Core.Path.{◌≡◌, refl, sym, ap}
use mathlib.Core.Bool.{Bool, true, false}
use mathlib.Core.List.{List, [], ◌∷◌}
use lib.Dec.{ltb, eqb}
use lib.ListN.{length, get_or}
use borrow.Author.Tests.{eq-eqb, ne_eqb, ltb-true, ltb-false}
use Rattle.refusal.specs.Said.{Said, ok, no_by, no, SHORT}
use Rattle.refusal.specs.Fixed.{tag}
use Rattle.word_reader.specs.Parse.{and_then, word, section}
use Rattle.word_layout.specs.Layout.{said, closed, layout_of}
use Rattle.word_serialized.specs.Opened.{opening_said, counted, opened, opening_of}

abbrev pub Agrees : List ℕ → Said → Said → Type 0
Agrees w (ok l) sections = l ≡ get_or w 1 0 ∷ []
Agrees w (no_by r) sections = sections ≡ no_by r

pub opening_agrees : (w : List ℕ) → Agrees w (opening_said (opening_of w)) (said (layout_of w))
unfolding opened counted layout_of closed and_then section word
opening_agrees w = go (ltb 0 (length w)) refl (eqb (get_or w 0 0) tag) refl (ltb 1 (length w)) refl
  where
    some : ltb 0 (length w) ≡ true → length w ≡ 0 → ⊥
    some e l = absurd (omega (arith, ltb-true 0 (length w) e))

    go : (a : Bool) → ltb 0 (length w) ≡ a → (b : Bool) → eqb (get_or w 0 0) tag ≡ b → (c : Bool) → ltb 1 (length w) ≡ c
        → Agrees w (opening_said (opening_of w)) (said (layout_of w))
    go false e b f c g = let l : length w ≡ 0 = omega (arith, ltb-false 0 (length w) e) in rw (e, eq-eqb (length w) 0 l) (ap (no SHORT) (sym l))
    go true e false f c g = rw (e, f, ne_eqb (length w) 0 (some e)) refl
    go true e true f false g = rw (e, f, g, ne_eqb (length w) 0 (some e)) refl
    go true e true f true g = rw (e, f, g) refl
