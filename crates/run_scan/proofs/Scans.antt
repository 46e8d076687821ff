-- The scans by a run, kind by kind. Assumes nothing.
use Prim.Native.Nat.{ℕ}
use lib.Seq.{length-take-le}
use mathlib.Core.Path.{◌≡◌, refl, sym, ◌∙◌}
use mathlib.Core.Bool.{Bool, ◌||◌, or-false, or_assoc}
use mathlib.Core.List.{List, [], ◌∷◌}
use lib.Dec.{eqb}
use lib.ListN.{length, take}
use borrow.Author.Rules.{rules}
use Rattle.refusal.specs.Lists.{some, before}
use Rattle.refusal.proofs.Lists.{before_≤, before_never, before_always, before_same}
use Rattle.run_ranges.specs.declared.AsciiRange.{AsciiRange}
use Rattle.run_ranges.specs.Ranges.{outside}
use Rattle.run_shape.specs.Shape.{Shape, none, any, until, ranges}
use Rattle.run_shape.specs.Scan.{stops, skipped}

-- The tests of one, two and three exits.
pub stops_one : (a x : ℕ) {t : Bool} → t ≡ eqb x a → t ≡ stops (until (a ∷ [])) x
unfolding stops some
stops_one a x e = e ∙ sym (or-false (eqb x a))

pub stops_two : (a b x : ℕ) {t : Bool} → t ≡ (eqb x a || eqb x b) → t ≡ stops (until (a ∷ b ∷ [])) x
unfolding stops some
stops_two a b x e = e ∙ (rw or-false)

pub stops_three : (a b c x : ℕ) {t : Bool} → t ≡ (eqb x a || eqb x b || eqb x c) → t ≡ stops (until (a ∷ b ∷ c ∷ [])) x
unfolding stops some
stops_three a b c x e = e ∙ (rw (or-false, or_assoc))

-- How many bytes a run skips.
module _ (bs : List ℕ) where
  pub skip_none : 0 ≡ skipped none bs
  unfolding stops
  skip_none = sym (before_always (stops none) (λ x. refl) bs)

  pub skip_any : length bs ≡ skipped any bs
  unfolding stops
  skip_any = sym (before_never (stops any) (λ x. refl) bs)

  pub skip_ranges : (rs : List AsciiRange) {r : ℕ} → r ≡ before (outside rs) bs → r ≡ skipped (ranges rs) bs
  unfolding stops
  skip_ranges rs h = h ∙ before_same (outside rs) (stops (ranges rs)) (λ x. refl) bs

-- The front part has the length that it is given.
pub front : (s : Shape) (bs : List ℕ) {n : ℕ} → n ≡ skipped s bs → n ≡ length (take n bs)
front s bs {n} e = sym (length-take-le n bs (rw e (before_≤ (stops s) bs)))

pub ruleset skipping = (rules, skip_none, skip_any, skip_ranges)
