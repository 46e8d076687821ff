-- The layout and the whole's reading agree: section by section they read the same, and the layout asks at the end whether words are left.
-- Assumes nothing.
use mathlib.Core.Path.{◌≡◌, refl, ap, ◌∙◌}
use mathlib.Core.List.{List, [], ◌∷◌}
use mathlib.Core.Bool.{Bool, true, false}
use Prim.Native.Nat.{ℕ, suc}
use native.Mathlib.Omega.{arith}
use lib.Dec.{eqb, ltb}
use lib.ListN.{length, get_or}
use borrow.Author.Tests.{lt-ltb, ne_eqb}
use Rattle.refusal.specs.Said.{TAG, LEFT}
use Rattle.refusal.specs.Fixed.{tag}
use Rattle.refusal.specs.Lists.{pick}
use Rattle.word_reader.specs.Parse.{Place}
use Rattle.std.specs.Prelude.{Ok, Err}
use Rattle.word_reader.specs.declared.Sections.{Sections}
use Rattle.word_reader.specs.Parse.{refused, and_then, word, section, both}
use Rattle.word_reader.specs.Records.{mode_at, state_at, run_at, ascii_at, wide_at, accept_at, escape_at, continuation_at}
use Rattle.word_layout.specs.Layout.{Layout}
use Rattle.word_layout.specs.Layout.{unfound, sections_in, closed, layout_of}
use Rattle.word_layout.specs.Layout.{after_modes, after_states, after_runs, after_ascii, after_wide, after_accepts, after_continuations}
use Rattle.word_layout.proofs.Found.{tagged, modes_there, read_whole}
use Rattle.law_tables.proofs.Whole.{sections_at, whole_at}
use Rattle.law_tables.proofs.Ends.{Reader}

-- a section behind what was read before it
step : (w : List ℕ) (x : Place) (f g : Reader) → and_then (and_then x (f w)) (g w) ≡ and_then x (both f g w)
unfolding and_then both
step w (Ok p) f g = refl
step w (Err r) f g = refl

-- the sections are read the same
sections_agree : (w : List ℕ) → after_continuations w ≡ sections_at w 1
unfolding sections_at and_then
sections_agree w =
    let c = section continuation_at in
    let e = both (section escape_at) c in
    let x = both (section accept_at) e in
    let v = both (section wide_at) x in
    let a = both (section ascii_at) v in
    let r = both (section run_at) a in
    let s = both (section state_at) r in
    step w (after_accepts w) (section escape_at) c
    ∙ step w (after_wide w) (section accept_at) e
    ∙ step w (after_ascii w) (section wide_at) x
    ∙ step w (after_runs w) (section ascii_at) v
    ∙ step w (after_states w) (section run_at) a
    ∙ step w (after_modes w) (section state_at) r
    ∙ step w (Ok 1) (section mode_at) s

-- where the layout's answer ends
abbrev pub as_place : List ℕ → Layout → Place
as_place w (Ok s) = Ok (length w)
as_place w (Err r) = Err r

-- the whole, read to the last word
abbrev pub to_last : List ℕ → Place → Place
to_last w (Ok p) = pick (ltb p (length w)) (refused LEFT p) (Ok (length w))
to_last w (Err r) = Err r

last : (w : List ℕ) (s : Sections) (x : Place) → as_place w (closed w s x) ≡ to_last w x
unfolding closed
last w s (Err r) = refl
last w s (Ok p) = go (ltb p (length w))
  where
    go : (b : Bool) → as_place w (pick b (unfound LEFT p) (Ok s)) ≡ pick b (refused LEFT p) (Ok (length w))
    go true = refl
    go false = refl

pub agree : (w : List ℕ) → as_place w (layout_of w) ≡ to_last w (whole_at w)
unfolding layout_of whole_at word
agree [] = refl
agree (x ∷ r) = rw (ne_eqb (suc (length r)) 0 (omega arith), lt-ltb 0 (suc (length r)) (omega arith)) (go (eqb x tag))
  where
    w : List ℕ
    w = x ∷ r

    go : (b : Bool) → as_place w (pick b (closed w (sections_in w) (after_continuations w)) (unfound TAG 0)) ≡ to_last w (pick b (sections_at w 1) (refused TAG 0))
    go true = last w (sections_in w) (after_continuations w) ∙ ap (to_last w) (sections_agree w)
    go false = refl

-- where a layout is found, a whole table is read, to the last word
pub found-whole : (w : List ℕ) {s : Sections} → layout_of w ≡ Ok s → whole_at w ≡ Ok (length w)
unfolding whole_at word
found-whole w l = rw (lt-ltb 0 (length w) (omega (arith, modes_there w l)), (tagged w l).0, ← sections_agree w) (read_whole w l)
