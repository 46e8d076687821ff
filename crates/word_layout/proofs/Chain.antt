-- A section behind another, and the whole, by the tests that the code makes. `got` is what a section's reader answered. Assumes nothing.
use Prim.Native.Nat.{ℕ, ◌<◌, ◌≤◌}
use mathlib.Core.Path.{◌≡◌, refl, sym, ap, ◌∙◌}
use mathlib.Core.List.{List}
use lib.Dec.{eqb}
use lib.ListN.{length, get_or}
use borrow.Author.Rules.{rules}
use borrow.Author.Tests.{eq-eqb, ne_eqb, lt-ltb, le-ltb}
use Rattle.refusal.specs.declared.Refusal.{Refusal}
use Rattle.refusal.specs.Said.{Said, ok, no_by, SHORT, TAG, LEFT}
use Rattle.refusal.specs.Fixed.{tag}
use Rattle.refusal.specs.Lists.{pick}
use Rattle.std.specs.Prelude.{Ok, Err}
use Rattle.word_reader.specs.Parse.{Place, and_then, section}
use Rattle.std.specs.Prelude.{Ok, Err}
use Rattle.word_layout.specs.Layout.{Layout, said, unfound, place_of, sections_in, closed, layout_of}
use Rattle.word_layout.specs.Layout.{after_modes, after_states, after_runs, after_ascii, after_wide, after_accepts, after_escapes, after_continuations}

-- the one before ended at a place, or was refused
module _ (w : List ℕ) (f : List ℕ → ℕ → Place) {at : ℕ} {x : Place} (e : x ≡ Ok at) where
  pub on : {p : ℕ} → Ok p ≡ section f w at → and_then x (section f w) ≡ Ok p
  unfolding and_then
  on g = let h = sym g in rw e h

  pub off : {r : Refusal} → Err r ≡ section f w at → and_then x (section f w) ≡ Err r
  unfolding and_then
  off g = let h = sym g in rw e h

pub past : (k : ℕ → Place) {r : Refusal} {x : Place} → x ≡ Err r → and_then x k ≡ Err r
unfolding and_then
past k e = rw e refl

pub layout_form : (w : List ℕ)
    → layout_of w ≡ pick (eqb (length w) 0) (unfound SHORT 0) (pick (eqb (get_or w 0 0) tag) (closed w (sections_in w) (after_continuations w)) (unfound TAG 0))
unfolding layout_of
layout_form w = refl

-- what the two ends of the chain are left with
pub ruleset ends = (rules, layout_form, eq-eqb, ne_eqb, lt-ltb, le-ltb)

-- all eight, read one behind the other
module _ (w : List ℕ) where
  pub shut : {r : Refusal} → after_continuations w ≡ Err r → Err r ≡ closed w (sections_in w) (after_continuations w)
  unfolding closed
  shut e = rw e

  pub more_left : {end : ℕ} → after_continuations w ≡ Ok end → end < length w → unfound LEFT end ≡ closed w (sections_in w) (after_continuations w)
  unfolding closed
  more_left e h = rw (e, lt-ltb _ _ h)

  pub all_read : {s r a v x e c end : ℕ} → after_modes w ≡ Ok s → after_states w ≡ Ok r → after_runs w ≡ Ok a → after_ascii w ≡ Ok v
      → after_wide w ≡ Ok x → after_accepts w ≡ Ok e → after_escapes w ≡ Ok c → after_continuations w ≡ Ok end → length w ≤ end
      → Ok (record { modes = 1; states = s; runs = r; ascii = a; wide = v; accepts = x; escapes = e; continuations = c })
      ≡ closed w (sections_in w) (after_continuations w)
  unfolding closed place_of
  all_read h₁ h₂ h₃ h₄ h₅ h₆ h₇ h₈ l = rw (h₈, le-ltb _ _ l, h₇, h₆, h₅, h₄, h₃, h₂, h₁)

pub ruleset sections = (rules, more_left, all_read)

-- `said` takes no two answers to one: what it says gives the answer back
abbrev back : Said → Layout
back (ok l) = Ok (record {
  modes = get_or l 0 0;
  states = get_or l 1 0;
  runs = get_or l 2 0;
  ascii = get_or l 3 0;
  wide = get_or l 4 0;
  accepts = get_or l 5 0;
  escapes = get_or l 6 0;
  continuations = get_or l 7 0;
})
back (no_by r) = Err r

back-said : (x : Layout) → back (said x) ≡ x
back-said (Ok s) = refl
back-said (Err r) = refl

pub said_one : (x y : Layout) → said x ≡ said y → x ≡ y
said_one x y e = sym (back-said x) ∙ ap back e ∙ back-said y
