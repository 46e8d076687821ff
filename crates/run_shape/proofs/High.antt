-- Where runs stop among the bytes of 128 and above: until-runs nowhere, for their exits are below 128; ranges at each, for their highs are. Assumes nothing.
use Prim.Native.Nat.{ℕ, zero, suc, ◌+◌, ◌/◌, ◌%◌, ◌≤◌}
use native.Mathlib.Omega.{arith}
use mathlib.Core.Path.{◌≡◌, refl, subst, sym}
use mathlib.Core.Bool.{Bool, true, false, ◌&&◌, and-false}
use mathlib.Core.List.{List, [], ◌∷◌}
use Rattle.std.specs.Prelude.{Some, None, Ok, Err}
use lib.Dec.{eqb, leb, ltb}
use lib.ListN.{length, get_or, take, drop}
use borrow.Author.Tests.{ne_eqb, lt-leb, leb-true, ltb-true}
use Rattle.refusal.specs.Said.{FIELD}
use Rattle.refusal.specs.Lists.{pick, some, every}
use Rattle.refusal.proofs.Lists.{and_split}
use Rattle.run_ranges.specs.declared.AsciiRange.{AsciiRange}
use Rattle.run_ranges.specs.declared.PackedRanges.{PackedRanges}
use Rattle.run_ranges.specs.Ranges.{follows, ordered, in_ranges, outside, unused, good_ranges, checked, unpacked, ranges_of_run}
use Rattle.run_shape.specs.declared.AsciiRun.{AsciiRun}
use Rattle.run_shape.specs.Shape.{none, any, until, shape, held, Got, refused}
use Rattle.run_shape.specs.Words.{is_ascii, is_zero, or_field, short_run, kind_of, bytes_of, ranges_run, packed_at, read_at}
use Rattle.run_shape.specs.Scan.{stops, stops_high}

-- exits below 128 let a higher byte pass
pub exits_pass : (b : ℕ) → 128 ≤ b → (es : List ℕ) → every is_ascii es ≡ true → some (eqb b) es ≡ false
unfolding some every
exits_pass b h [] e = refl
exits_pass b h (x ∷ xs) e =
    let s = and_split (is_ascii x) (every is_ascii xs) e in
    let l = ltb-true x 128 s.0 in
    let n : b ≡ x → ⊥ = λ i. omega arith in
    rw (ne_eqb b x n) (exits_pass b h xs s.1)

-- ranges in order, whose highs are at most 127, hold no higher byte
pub ordered_stop : (b : ℕ) → 128 ≤ b → (least : ℕ) (rs : List AsciiRange) → ordered least rs ≡ true → outside rs b ≡ true
unfolding ordered in_ranges
ordered_stop b h least [] e = refl
ordered_stop b h least (r ∷ rs) e =
    let s = and_split (follows least r) (ordered (r.high + 2) rs) e in
    let f = and_split (leb least r.low && leb r.low r.high) (leb r.high 127) s.0 in
    let l = leb-true r.high 127 f.1 in
    let m : leb b r.high ≡ false = lt-leb b r.high (omega arith) in
    rw (m, and-false) (ordered_stop b h (r.high + 2) rs s.1)

-- what is got stops so, if it is a run
abbrev High : ℕ → Got → Type 0
High b (Ok r) = stops (shape r) b ≡ stops_high (shape r)
High b (Err r) = Unit {0}

either : (b : ℕ) (x y : Got) (t : Bool) → (t ≡ true → High b x) → (t ≡ false → High b y) → High b (pick t x y)
either b x y true f g = f refl
either b x y false f g = g refl

module _ (b : ℕ) (h : 128 ≤ b) (at : ℕ) where
  judged : (r : AsciiRun) (t : Bool) → (t ≡ true → High b (Ok r)) → High b (or_field at t r)
  unfolding or_field
  judged r t f = either b (Ok r) (refused FIELD at) t f (λ e. tt)

  -- exits in front of unused bytes
  untils : (r : AsciiRun) (es more : List ℕ) → High b (Ok r) ≡ (some (eqb b) es ≡ false) → High b (or_field at (every is_ascii es && every is_zero more) r)
  untils r es more i =
      judged r (every is_ascii es && every is_zero more) (λ e. subst (λ A. A) (sym i) (exits_pass b h es (and_split (every is_ascii es) (every is_zero more) e).0))

  -- a run of one word
  short_high : (kind x y z : ℕ) → High b (short_run at kind (x ∷ y ∷ z ∷ []))
  unfolding short_run held stops
  short_high zero x y z = judged (held none) (every is_zero (x ∷ y ∷ z ∷ [])) (λ e. refl)
  short_high (suc zero) x y z = judged (held any) (every is_zero (x ∷ y ∷ z ∷ [])) (λ e. refl)
  short_high (suc (suc zero)) x y z = untils (held (until (x ∷ []))) (x ∷ []) (y ∷ z ∷ []) refl
  short_high (suc (suc (suc zero))) x y z = untils (held (until (x ∷ y ∷ []))) (x ∷ y ∷ []) (z ∷ []) refl
  short_high (suc (suc (suc (suc zero)))) x y z = untils (held (until (x ∷ y ∷ z ∷ []))) (x ∷ y ∷ z ∷ []) [] refl
  short_high (suc (suc (suc (suc (suc k))))) x y z =
      let not_none : suc (suc (suc (suc (suc k)))) ≡ 0 → ⊥ = λ e. omega arith in
      let not-any : suc (suc (suc (suc (suc k)))) ≡ 1 → ⊥ = λ e. omega arith in
      rw (ne_eqb _ 0 not_none, ne_eqb _ 1 not-any, lt-leb (suc (suc (suc (suc (suc k))))) 4 (omega arith)) tt

  -- a run of ranges
  checked_high : (n : ℕ) (rs : List AsciiRange) → High b (ranges_run at (checked n rs))
  unfolding checked good_ranges stops
  checked_high n rs = cases (good_ranges n rs) refl
    where
      cases : (t : Bool) → good_ranges n rs ≡ t → High b (ranges_run at (pick t (Some (record { ranges = rs; count = n })) None))
      cases true e =
          let l = and_split (leb 1 n) (leb n 4 && (ordered 0 (take n rs) && unused (drop n rs))) e in
          let m = and_split (leb n 4) (ordered 0 (take n rs) && unused (drop n rs)) l.1 in
          ordered_stop b h 0 (take n rs) (and_split (ordered 0 (take n rs)) (unused (drop n rs)) m.1).0
      cases false e = tt

  ranges_high : (kind : ℕ) (w : PackedRanges) → High b (ranges_run at (ranges_of_run kind w))
  unfolding ranges_of_run
  ranges_high kind w = cases (eqb (kind % 256) 5 && leb kind 65535)
    where
      cases : (t : Bool) → High b (ranges_run at (pick t (checked (kind / 256) (unpacked w)) None))
      cases true = checked_high (kind / 256) (unpacked w)
      cases false = tt

  -- what is read at a place
  got_high : (w : List ℕ) → High b (read_at w at)
  unfolding read_at
  got_high w =
      let x = get_or w at 0 in
      let long = ranges_run at (ranges_of_run x (packed_at w (at + 1))) in
      let short = short_run at (kind_of x) (bytes_of x) in
      let whole = leb (at + 3) (length w) in
      either b _ _ (ltb at (length w))
      (λ i. either b _ short (eqb (kind_of x) 5) (λ j. either b long _ whole (λ k. ranges_high x (packed_at w (at + 1))) (λ k. tt)) (λ j. short_high _ _ _ _))
      (λ i. tt)

-- "until-runs stop only at their exit bytes and pass bytes of 128 and above; ranges stop there; any takes all": of every run that is read
pub read_high : (w : List ℕ) (at : ℕ) (r : AsciiRun) → read_at w at ≡ Ok r → (b : ℕ) → 128 ≤ b → stops (shape r) b ≡ stops_high (shape r)
read_high w at r e b h = subst (High b) e (got_high b h at w)
