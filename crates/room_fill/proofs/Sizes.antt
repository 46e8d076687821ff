-- How many numbers a table has: nine, its words, and a place for each record of variable length, at most two for each word. Assumes nothing.
use Prim.Native.Nat.{ℕ, zero, suc, ◌+◌, ◌*◌, ◌-◌, ◌≤◌}
use native.Mathlib.Omega.{arith}
use mathlib.Core.Path.{◌≡◌, refl, ap}
use mathlib.Core.List.{List, ◌++◌}
use lib.ListN.{length, get_or, drop, length-append, length-drop}
use lib.Seq.{length-take-le}
use Rattle.refusal.specs.Lists.{each}
use Rattle.word_reader.specs.Parse.{Place}
use Rattle.std.specs.Prelude.{Ok, Err}
use Rattle.word_reader.specs.Parse.{and_then, many, section}
use Rattle.word_reader.specs.Records.{run_at, wide_at, accept_at, escape_at, config_at, continuation_at}
use Rattle.word_reader.proofs.Bounds.{Within, counted_in, section_in, run_in_lem, wide_in_lem, accept_in, escape_in_lem}
use Rattle.word_reader.proofs.Bounds.{continuation_in, accept-sized, config_sized, configs_behind}
use Rattle.word_reader.specs.declared.Sections.{Sections}
use Rattle.word_layout.specs.Layout.{layout_of}
use Rattle.word_layout.proofs.Found.{found, order, accepts_there}
use Rattle.room_fill.specs.Room.{starts, starts_from, copied, shifted, placed, renewed, accept_made}
use Rattle.room_fill.specs.Room.{config_made, continuation_made, made, header, places, numbers}

-- Records

copied-length : (w : List ℕ) (at n : ℕ) → at + n ≤ length w → length (copied w at n) ≡ n
unfolding copied
copied-length w at n h = length-take-le n (drop at w) (omega (arith, length-drop at w))

-- what is written for a record is as long as the record
abbrev Sized : (ℕ → Place) → (ℕ → List ℕ) → Type 0
Sized f g = (a p : ℕ) → f a ≡ Ok p → a + length (g a) ≡ p

each-sized : (f : ℕ → Place) (g : ℕ → List ℕ) → Sized f g → (c at p : ℕ) → many f c at ≡ Ok p → at + length (each g (starts f c at)) ≡ p
unfolding many and_then each starts starts_from
each-sized f g sized zero at p e = let q : at ≡ p = cc in omega arith
each-sized f g sized (suc c) at p e = go (f at) refl (each-sized f g sized c) e
  where
    go : (x : Place) → f at ≡ x → ((a q : ℕ) → many f c a ≡ Ok q → a + length (each g (starts f c a)) ≡ q) → and_then x (many f c) ≡ Ok p
        → at + length (each g (starts_from x at (starts f c))) ≡ p
    go (Ok q) u rec v = omega (arith, sized at q u, rec q p v, length-append (g at) (each g (starts f c q)))
    go (Err r) u rec v = let z : ◌≡◌ {A = ℕ} 0 1 = cc in absurd (omega arith)

renewed-sized : (f : List ℕ → ℕ → Place) (g : List ℕ → ℕ → List ℕ) (w : List ℕ) → Sized (f w) (g w) → Sized (section f w) (renewed f g w)
unfolding renewed
renewed-sized f g w sized at p e = omega (arith, each-sized (f w) (g w) sized (get_or w at 0) (at + 1) p (section_in f w at p e).1)

pub accept-sized-made : (w : List ℕ) → Sized (accept_at w) (accept_made w)
unfolding accept_made
accept-sized-made w a p e = let r = accept-sized w a p e in omega (arith, copied-length w (a + 2) (get_or w (a + 2) 0 * 3 + 1) (omega arith))

pub config_sized_made : (w : List ℕ) → Sized (config_at w) (config_made w)
unfolding config_made
config_sized_made w a p e = let r = config_sized w a p e in omega (arith, copied-length w (a + 4) (get_or w (a + 5) 0 * 3 + 2) (omega arith))

continuation-sized : (w : List ℕ) → Sized (continuation_at w) (continuation_made w)
unfolding continuation_made
continuation-sized w a p e =
    let n = get_or w a 0 * 3 + 1 in
    let s = configs_behind w a p e in
    let i = section_in config_at w (a + n) p s in
    let l = copied-length w a n (omega arith) in
    omega (arith, renewed-sized config_at config_made w (config_sized_made w) (a + n) p s, length-append (copied w a n) (renewed config_at config_made w (a + n)))

-- a place for each record
shifted-length : (f : ℕ → Place) (c at p : ℕ) → many f c at ≡ Ok p → length (each shifted (starts f c at)) ≡ c
unfolding many and_then each starts starts_from
shifted-length f zero at p e = refl
shifted-length f (suc c) at p e = go (f at) refl (shifted-length f c) e
  where
    go : (x : Place) → f at ≡ x → ((a q : ℕ) → many f c a ≡ Ok q → length (each shifted (starts f c a)) ≡ c) → and_then x (many f c) ≡ Ok p
        → length (each shifted (starts_from x at (starts f c))) ≡ suc c
    go (Ok q) u rec v = ap suc (rec q p v)
    go (Err r) u rec v = let z : ◌≡◌ {A = ℕ} 0 1 = cc in absurd (omega arith)

-- the places of a section and its count take no more than its words
placed-length : (f : List ℕ → ℕ → Place) (w : List ℕ) → Within (length w) 1 (f w) → (at p : ℕ) → section f w at ≡ Ok p → at + 1 + length (placed f w at) ≤ p
unfolding placed
placed-length f w within at p e =
    let i = section_in f w at p e in
    omega (arith, (counted_in f w within at p e).0, shifted-length (f w) (get_or w at 0) (at + 1) p i.1)

-- Sections

module _ (w : List ℕ) {s : Sections} (h : layout_of w ≡ Ok s) where
  pub made-length : length (made w s) ≡ length w
  made-length =
      let o = order w h in
      let l = found w h in
      let n = s.continuations - s.escapes in
      let A = copied w 0 s.accepts in
      let B = renewed accept_at accept_made w s.accepts in
      let C = copied w s.escapes n in
      let D = renewed continuation_at continuation_made w s.continuations in
      omega (
        arith,
        o.escapes,
        o.continuations,
        o.all,
        copied-length w 0 s.accepts (omega (arith, accepts_there w h)),
        copied-length w s.escapes n (omega (arith, o.continuations, o.all)),
        renewed-sized accept_at accept_made w (accept-sized-made w) s.accepts s.escapes l.accepts,
        renewed-sized continuation_at continuation_made w (continuation-sized w) s.continuations (length w) l.continuations,
        length-append A (B ++ (C ++ D)),
        length-append B (C ++ D),
        length-append C D,
      )

  pub places-length : 9 + length (places w s) ≤ length w
  places-length =
      let o = order w h in
      let l = found w h in
      let A = placed run_at w s.runs in
      let B = placed wide_at w s.wide in
      let C = placed accept_at w s.accepts in
      let D = placed escape_at w s.escapes in
      let E = placed continuation_at w s.continuations in
      omega (
        arith,
        l.front,
        o.states,
        o.runs,
        o.wide,
        placed-length run_at w (run_in_lem w) s.runs s.ascii l.runs,
        placed-length wide_at w (wide_in_lem w) s.wide s.accepts l.wide,
        placed-length accept_at w (accept_in w) s.accepts s.escapes l.accepts,
        placed-length escape_at w (escape_in_lem w) s.escapes s.continuations l.escapes,
        placed-length continuation_at w (continuation_in w) s.continuations (length w) l.continuations,
        length-append A (B ++ (C ++ (D ++ E))),
        length-append B (C ++ (D ++ E)),
        length-append C (D ++ E),
        length-append D E,
      )

  -- nine numbers in front, and the rest at most two for each word
  pub numbers-length : length (numbers w s) ≤ length w + length w
  unfolding header
  numbers-length = omega (arith, made-length, places-length, length-append (made w s) (places w s))
