-- What it means that the sections were found: each was read to the place of the next, and the last to the end of the words. Assumes nothing.
use Prim.Native.Nat.{ℕ, ◌<◌, ◌≤◌}
use native.Mathlib.Omega.{arith}
use mathlib.Core.Path.{◌≡◌, refl, ap, subst, ◌∙◌}
use mathlib.Core.Bool.{Bool, true, false}
use mathlib.Core.List.{List}
use lib.Dec.{eqb, ltb}
use lib.ListN.{length, get_or}
use borrow.Author.Tests.{ltb-false}
use Rattle.refusal.specs.Said.{SHORT, TAG, LEFT}
use Rattle.refusal.specs.Fixed.{tag}
use Rattle.refusal.specs.Lists.{pick}
use Rattle.std.specs.Prelude.{Ok, Err}
use Rattle.word_reader.specs.declared.Sections.{Sections}
use Rattle.word_reader.specs.Parse.{Place, and_then, section}
use Rattle.word_reader.specs.Records.{mode_at, state_at, run_at, ascii_at, wide_at, accept_at, escape_at, continuation_at}
use Rattle.word_reader.proofs.Bounds.{Within, counted_in, mode_in_lem, state_in, run_in_lem, ascii_in_lem, wide_in_lem, accept_in, escape_in_lem, continuation_in}
use Rattle.std.specs.Prelude.{Ok, Err}
use Rattle.word_layout.specs.Layout.{Layout, unfound, place_of, sections_in, closed, layout_of}
use Rattle.word_layout.specs.Layout.{after_modes, after_states, after_runs, after_ascii, after_wide, after_accepts, after_escapes, after_continuations}

pub record Laid (w : List ℕ) (s : Sections) : Type 0 where
  pub front : s.modes ≡ 1
  pub modes : section mode_at w s.modes ≡ Ok s.states
  pub states : section state_at w s.states ≡ Ok s.runs
  pub runs : section run_at w s.runs ≡ Ok s.ascii
  pub ascii : section ascii_at w s.ascii ≡ Ok s.wide
  pub wide : section wide_at w s.wide ≡ Ok s.accepts
  pub accepts : section accept_at w s.accepts ≡ Ok s.escapes
  pub escapes : section escape_at w s.escapes ≡ Ok s.continuations
  pub continuations : section continuation_at w s.continuations ≡ Ok (length w)

module _ {s : Sections} where
  -- a test that refuses where it holds
  passed : (b : Bool) (n p : ℕ) (k : Layout) → pick b (unfound n p) k ≡ Ok s → (b ≡ false) × (k ≡ Ok s)
  passed true n p k h = let z : ◌≡◌ {A = ℕ} 0 1 = cc in absurd (omega arith)
  passed false n p k h = (refl, h)

  -- and one that refuses where it fails
  kept : (b : Bool) (n p : ℕ) (k : Layout) → pick b k (unfound n p) ≡ Ok s → (b ≡ true) × (k ≡ Ok s)
  kept true n p k h = (refl, h)
  kept false n p k h = let z : ◌≡◌ {A = ℕ} 0 1 = cc in absurd (omega arith)

  -- all were read, and nothing is left
  ended : (w : List ℕ) (x : Place) (f : Sections) → closed w f x ≡ Ok s → (p : ℕ) × (x ≡ Ok p) × (length w ≤ p) × (f ≡ s)
  unfolding closed
  ended w (Ok p) f h =
      let l = passed (ltb p (length w)) LEFT p (Ok f) h in
      (p, refl, ltb-false p (length w) l.0, let z = l.1 in cc)
  ended w (Err r) f h = let z : ◌≡◌ {A = ℕ} 0 1 = cc in absurd (omega arith)

-- what was read behind a place was read there
came : (x : Place) (k : ℕ → Place) {p : ℕ} → and_then x k ≡ Ok p → (x ≡ Ok (place_of x)) × (k (place_of x) ≡ Ok p)
unfolding and_then place_of
came (Ok q) k h = (refl, h)
came (Err r) k h = let z : ◌≡◌ {A = ℕ} 0 1 = cc in absurd (omega arith)

-- the tag stands in front
pub tagged : (w : List ℕ) {s : Sections} → layout_of w ≡ Ok s → (eqb (get_or w 0 0) tag ≡ true) × (closed w (sections_in w) (after_continuations w) ≡ Ok s)
unfolding layout_of
tagged w h = kept (eqb (get_or w 0 0) tag) TAG 0 _ (passed (eqb (length w) 0) SHORT 0 _ h).1

pub found : (w : List ℕ) {s : Sections} → layout_of w ≡ Ok s → Laid w s
unfolding place_of
found w h =
    let e = ended w (after_continuations w) (sections_in w) (tagged w h).1 in
    let c = came (after_escapes w) _ e.1 in
    let x = came (after_accepts w) _ c.0 in
    let a = came (after_wide w) _ x.0 in
    let v = came (after_ascii w) _ a.0 in
    let r = came (after_runs w) _ v.0 in
    let t = came (after_states w) _ r.0 in
    let s = came (after_modes w) _ t.0 in
    let m = came (Ok 1) _ s.0 in
    let most = counted_in continuation_at w (continuation_in w) _ e.0 c.1 in
    let last : e.0 ≡ length w = omega (arith, e.2, most.1) in
    subst (Laid w) e.3 (record {
      front = refl;
      modes = m.1;
      states = s.1;
      runs = t.1;
      ascii = r.1;
      wide = v.1;
      accepts = a.1;
      escapes = x.1;
      continuations = c.1 ∙ ap Ok last;
    })

-- The sections stand in order, each behind the count of the one before it, and within the words

pub record Ordered (w : List ℕ) (s : Sections) : Type 0 where
  pub states : s.modes < s.states
  pub runs : s.states < s.runs
  pub ascii : s.runs < s.ascii
  pub wide : s.ascii < s.wide
  pub accepts : s.wide < s.accepts
  pub escapes : s.accepts < s.escapes
  pub continuations : s.escapes < s.continuations
  pub all : s.continuations < length w

-- a section ends behind its count
section_past : (f : List ℕ → ℕ → Place) (w : List ℕ) → Within (length w) 1 (f w) → {at p : ℕ} → section f w at ≡ Ok p → at < p
section_past f w within {at} {p} h = omega (arith, (counted_in f w within at p h).0)

module _ (w : List ℕ) {s : Sections} (h : layout_of w ≡ Ok s) where
  pub order : Ordered w s
  order =
      let l = found w h in
      record {
        states = section_past mode_at w (mode_in_lem w) l.modes;
        runs = section_past state_at w (state_in w) l.states;
        ascii = section_past run_at w (run_in_lem w) l.runs;
        wide = section_past ascii_at w (ascii_in_lem w) l.ascii;
        accepts = section_past wide_at w (wide_in_lem w) l.wide;
        escapes = section_past accept_at w (accept_in w) l.accepts;
        continuations = section_past escape_at w (escape_in_lem w) l.escapes;
        all = section_past continuation_at w (continuation_in w) l.continuations;
      }

  -- all of it was read
  pub read_whole : after_continuations w ≡ Ok (length w)
  read_whole =
      let e = ended w (after_continuations w) (sections_in w) (tagged w h).1 in
      let c = came (after_escapes w) _ e.1 in
      let last : e.0 ≡ length w = omega (arith, e.2, (counted_in continuation_at w (continuation_in w) _ e.0 c.1).1) in
      e.1 ∙ ap Ok last

  pub continuations_there : s.continuations < length w
  continuations_there = order.all

  pub escapes_there : s.escapes < length w
  escapes_there = omega (arith, order.continuations, continuations_there)

  pub accepts_there : s.accepts < length w
  accepts_there = omega (arith, order.escapes, escapes_there)

  pub wide_there : s.wide < length w
  wide_there = omega (arith, order.accepts, accepts_there)

  pub ascii_there : s.ascii < length w
  ascii_there = omega (arith, order.wide, wide_there)

  pub runs_there : s.runs < length w
  runs_there = omega (arith, order.ascii, ascii_there)

  pub states_there : s.states < length w
  states_there = omega (arith, order.runs, runs_there)

  pub modes_there : s.modes < length w
  modes_there = omega (arith, order.states, states_there)

-- a count is one of the words
pub ruleset there = (modes_there, states_there, runs_there, ascii_there, wide_there, accepts_there, escapes_there, continuations_there)
