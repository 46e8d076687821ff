-- The classification of a row is the run that document 01 describes, and stops a byte of ASCII exactly where the row does not loop.
-- For the exits are the row's symbols that do not loop, the ranges hold those that do, and each shape goes by one of the two. Assumes nothing.
use Prim.Native.Nat.{ℕ, zero, suc, ◌≤◌, ◌<◌}
use native.Mathlib.Omega.{arith}
use mathlib.Core.Path.{◌≡◌, refl, ap, sym, ◌∙◌}
use mathlib.Core.Bool.{Bool, true, false, not, ◌&&◌, ◌||◌, and-true, and-false}
use mathlib.Core.List.{List, [], ◌∷◌}
use lib.Dec.{eqb, leb}
use lib.ListN.{length, get_or}
use lib.Seq.{take-append_seam}
use borrow.Author.Tests.{eq-eqb, ne_eqb, eqb-true, eqb-false, le-leb, lt-leb, leb-true}
use Rattle.refusal.specs.Said.{FIELD}
use Rattle.refusal.specs.Lists.{pick, some}
use Rattle.run_ranges.specs.declared.AsciiRange.{AsciiRange}
use Rattle.run_ranges.specs.Ranges.{loops_at, exits_at, ranges_from, outside, up_to_four, listed}
use Rattle.run_ranges.proofs.Maximal.{passing, passing_in_lem, passing_behind, ranges_hold}
use Rattle.run_shape.specs.declared.AsciiRun.{AsciiRun}
use Rattle.run_shape.specs.declared.AsciiRun.TheVariants.{None}
use Rattle.std.specs.Prelude.{Ok}
use Rattle.run_shape.specs.Shape.{Shape, none, any, until, ranges, shape, held, refused}
use Rattle.run_shape.specs.Classify.{exits_from, by_ranges, by_exits, classification, classified}
use Rattle.run_shape.specs.Scan.{stops, stops_high, skipped, skipped_said, scan_of, scan_said}

-- The exits of a row.

-- they are exactly the symbols that do not loop
pub exits_hold : (state k : ℕ) (ts : List ℕ) (b : ℕ) → some (eqb b) (exits_from state k ts) ≡ passing (exits_at state) k ts b
unfolding exits_from some passing
exits_hold state k [] b = refl
exits_hold state k (t ∷ ts) b = cases (exits_at state t) (exits_hold state (suc k) ts b) where
  cases : (l : Bool) → some (eqb b) (exits_from state (suc k) ts) ≡ passing (exits_at state) (suc k) ts b →
      some (eqb b) (pick l (k ∷ exits_from state (suc k) ts) (exits_from state (suc k) ts)) ≡ (eqb b k && l || passing (exits_at state) (suc k) ts b)
  cases true h = rw (and-true, h)
  cases false h = rw (and-false, h)

-- the first is `least` or above, and each of the others above the one before
abbrev Above : ℕ → List ℕ → Type 0
Above least [] = Unit {0}
Above least (e ∷ es) = (least ≤ e) × Above (suc e) es

later : (least : ℕ) (es : List ℕ) → Above (suc least) es → Above least es
later least [] a = tt
later least (e ∷ es) a = (omega arith, a.1)

exits_above : (state k : ℕ) (ts : List ℕ) → Above k (exits_from state k ts)
unfolding exits_from
exits_above state k [] = tt
exits_above state k (t ∷ ts) = cases (exits_at state t) (exits_above state (suc k) ts) where
  cases : (l : Bool) → Above (suc k) (exits_from state (suc k) ts) → Above k (pick l (k ∷ exits_from state (suc k) ts) (exits_from state (suc k) ts))
  cases true a = (omega arith, a)
  cases false a = later k (exits_from state (suc k) ts) a

above_next : (least : ℕ) (es : List ℕ) → Above least es → (i : ℕ) → suc i < length es → get_or es i 0 < get_or es (suc i) 0
above_next least [] a i h = absurd (omega arith)
above_next least (e ∷ []) a i h = absurd (omega arith)
above_next least (e ∷ f ∷ es) a zero h = omega arith
above_next least (e ∷ f ∷ es) a (suc i) h = above_next (suc e) (f ∷ es) a.1 i (omega arith)

pub exits_ascend : (state k : ℕ) (ts : List ℕ) (i : ℕ) → suc i < length (exits_from state k ts)
    → get_or (exits_from state k ts) i 0 < get_or (exits_from state k ts) (suc i) 0
exits_ascend state k ts i h = above_next k (exits_from state k ts) (exits_above state k ts) i h

-- The shape that exits and ranges give, by how many there are.

module _ (es : List ℕ) (rs : List AsciiRange) where
  pub gives_any : length es ≡ 0 → by_exits es rs ≡ any
  unfolding by_exits
  gives_any h = rw (eq-eqb (length es) 0 h)

  pub gives_until : (1 ≤ length es) × (length es ≤ 3) → by_exits es rs ≡ until es
  unfolding by_exits
  gives_until h = let n : length es ≡ 0 → ⊥ = λ e. omega arith in rw (ne_eqb (length es) 0 n, le-leb (length es) 3 h.1)

  gives_more : 3 < length es → by_exits es rs ≡ by_ranges rs
  unfolding by_exits
  gives_more h = let n : length es ≡ 0 → ⊥ = λ e. omega arith in rw (ne_eqb (length es) 0 n, lt-leb (length es) 3 h)

  pub gives_ranges : 3 < length es → (1 ≤ length rs) × (length rs ≤ 4) → by_exits es rs ≡ ranges rs
  unfolding by_ranges
  gives_ranges h n = gives_more h ∙ (rw (le-leb 1 (length rs) n.0, le-leb (length rs) 4 n.1))

  pub gives_none : 3 < length es → ((1 ≤ length rs) × (length rs ≤ 4) → ⊥) → by_exits es rs ≡ none
  unfolding by_ranges
  gives_none h n = gives_more h ∙ cases (leb 1 (length rs)) refl (leb (length rs) 4) refl where
    cases : (l : Bool) → leb 1 (length rs) ≡ l → (m : Bool) → leb (length rs) 4 ≡ m → pick (l && m) (ranges rs) none ≡ none
    cases true e true f = absurd (n (leb-true 1 (length rs) e, leb-true (length rs) 4 f))
    cases true e false f = refl
    cases false e m f = refl

  -- what is so of each shape that they can give is so of the one that they give
  by_shape : (P : Shape → Type 0) → (length es ≡ 0 → P any) → (1 ≤ length es → length es ≤ 3 → P (until es)) → (length rs ≤ 4 → P (ranges rs))
      → P none → P (by_exits es rs)
  unfolding by_exits by_ranges
  by_shape P a u r n = cases (eqb (length es) 0) refl (leb (length es) 3) refl (leb 1 (length rs)) (leb (length rs) 4) refl where
    cases : (t : Bool) → eqb (length es) 0 ≡ t → (v : Bool) → leb (length es) 3 ≡ v → (l m : Bool) → leb (length rs) 4 ≡ m
        → P (pick t any (pick v (until es) (pick (l && m) (ranges rs) none)))
    cases true e v f l m g = a (eqb-true (length es) 0 e)
    cases false e true f l m g = u (omega (arith, eqb-false (length es) 0 e)) (leb-true (length es) 3 f)
    cases false e false f true true g = r (leb-true (length rs) 4 g)
    cases false e false f true false g = n
    cases false e false f false m g = n

-- Where the run of a row stops.

none_among : (p : ℕ → Bool) (es : List ℕ) → length es ≡ 0 → some p es ≡ false
unfolding some
none_among p [] h = refl
none_among p (e ∷ es) h = absurd (omega arith)

-- if exits and ranges agree on a byte, so does the shape that they give
stops-alike : (es : List ℕ) (rs : List AsciiRange) (b : ℕ) {t : Bool} → some (eqb b) es ≡ t → outside rs b ≡ t → (by_exits es rs ≡ none → ⊥)
    → stops (by_exits es rs) b ≡ t
unfolding stops
stops-alike es rs b {t} e o =
    by_shape es rs (λ s. (s ≡ none → ⊥) → stops s b ≡ t) (λ h n. sym (none_among (eqb b) es h) ∙ e) (λ l h n. e) (λ h n. o) (λ n. absurd (n refl))

pub classification-stops : (state : ℕ) (row : List ℕ) → (classification state row ≡ none → ⊥) → (b : ℕ) → b < length row
    → stops (classification state row) b ≡ exits_at state (get_or row b 0)
classification-stops state row n b h =
    let e = exits_hold state 0 row b ∙ passing_in_lem (exits_at state) row b h in
    let l = ranges_hold state 0 row b ∙ passing_in_lem (loops_at state) row b h in
    stops-alike (exits_from state 0 row) (ranges_from state 0 row) b e (ap not l) n

-- "until-runs .. pass bytes of 128 and above; ranges stop there; any takes all": a row has no symbol there, so that no exit and no range is
pub classification_high : (state : ℕ) (row : List ℕ) → length row ≡ 128 → (b : ℕ) → 128 ≤ b
    → stops (classification state row) b ≡ stops_high (classification state row)
unfolding stops
classification_high state row l b h =
    let es = exits_from state 0 row in
    let rs = ranges_from state 0 row in
    let e = exits_hold state 0 row b ∙ passing_behind (exits_at state) 0 row b (omega arith) in
    let o = ranges_hold state 0 row b ∙ passing_behind (loops_at state) 0 row b (omega arith) in
    by_shape es rs (λ s. stops s b ≡ stops_high s) (λ n. refl) (λ n m. e) (λ n. ap not o) refl

-- where there is a run, the scan says how far it went
pub run_said : (s : Shape) (bs : List ℕ) → (s ≡ none → ⊥) → scan_said s bs ≡ skipped_said (skipped s bs) bs
unfolding scan_of
run_said none bs n = absurd (n refl)
run_said any bs n = refl
run_said (until es) bs n = refl
run_said (ranges rs) bs n = refl

-- The run that the code holds for a row stands for the row's shape.

held_until : (es : List ℕ) → 1 ≤ length es → length es ≤ 3 → shape (held (until es)) ≡ until es
unfolding held
held_until [] l h = absurd (omega arith)
held_until (a ∷ []) l h = refl
held_until (a ∷ b ∷ []) l h = refl
held_until (a ∷ b ∷ c ∷ []) l h = refl
held_until (a ∷ b ∷ c ∷ d ∷ es) l h = absurd (omega arith)

held_ranges : (rs : List AsciiRange) → length rs ≤ 4 → listed (up_to_four rs) ≡ rs
unfolding up_to_four
held_ranges rs h = rw (le-leb (length rs) 4 h) (take-append_seam rs _)

pub classification-held : (state : ℕ) (row : List ℕ) → shape (held (classification state row)) ≡ classification state row
unfolding held
classification-held state row =
    let es = exits_from state 0 row in
    let rs = ranges_from state 0 row in
    by_shape es rs (λ s. shape (held s) ≡ s) (λ h. refl) (held_until es) (λ h. ap ranges (held_ranges rs h)) refl

-- Of what classification answers: where that is a run, the row has 128 targets, and the run is the row's.
module _ (state : ℕ) (row : List ℕ) (k : AsciiRun) (e : Ok k ≡ classified state row) where
  pub ran_row : (length row ≡ 128) × (k ≡ held (classification state row))
  unfolding classified
  ran_row = cases (eqb (length row) 128) refl e where
    cases : (t : Bool) → eqb (length row) 128 ≡ t → Ok k ≡ pick t (Ok (held (classification state row))) (refused FIELD 0) →
        (length row ≡ 128) × (k ≡ held (classification state row))
    cases true w h = (eqb-true (length row) 128 w, cc)
    cases false w h =
        let z : ◌≡◌ {A = ℕ} 0 1 = cc in
        absurd (omega arith)

  pub ran_shape : shape k ≡ classification state row
  ran_shape = ap shape ran_row.1 ∙ classification-held state row

  pub ran_some : (k ≡ None → ⊥) → classification state row ≡ none → ⊥
  unfolding held
  ran_some n z = n (ran_row.1 ∙ ap held z)
