-- The scan by four ranges, of which some may be unused. Assumes nothing.
use Prim.Native.Nat.{ℕ, zero, suc}
use native.Mathlib.Omega.{arith}
use mathlib.Core.Path.{◌≡◌, refl, ap, ◌∙◌}
use mathlib.Core.Bool.{Bool, false, not, ◌||◌, or-false, or_assoc, and-false}
use mathlib.Core.List.{List, [], ◌∷◌}
use lib.Dec.{leb, ltb, leb-suc-zero}
use lib.ListN.{length, get_or, take}
use borrow.Author.Tests.{lt-ltb}
use Rattle.refusal.specs.Lists.{before}
use Rattle.refusal.proofs.Lists.{before_same}
use Rattle.run_ranges.specs.declared.AsciiRange.{AsciiRange}
use Rattle.run_ranges.specs.Ranges.{range, in_range, in_ranges, outside, used_if}

-- the four tests that the code makes of a byte
pub is_outside : (a b c d : AsciiRange) (n : ℕ) {x y z w : Bool} → x ≡ in_range a n → y ≡ in_range b n → z ≡ in_range c n → w ≡ in_range d n
    → not (x || y || z || w) ≡ outside (a ∷ b ∷ c ∷ d ∷ []) n
unfolding in_ranges
is_outside a b c d n e f g h = rw (e, f, g, h, or-false, or_assoc, or_assoc)

-- the range that stands for an unused place holds nothing
holds-none : (n : ℕ) → in_range (range 1 0) n ≡ false
holds-none zero = refl
holds-none (suc n) = rw leb-suc-zero (and-false (leb 1 (suc n)))

-- a list of four
by_four : (P : List AsciiRange → Type 0) → ((a b c d : AsciiRange) → P (a ∷ b ∷ c ∷ d ∷ [])) → (rs : List AsciiRange) → length rs ≡ 4 → P rs
by_four P f [] l = let z : ◌≡◌ {A = ℕ} 0 4 = l in absurd (omega arith)
by_four P f (a ∷ []) l = let z : ◌≡◌ {A = ℕ} 1 4 = l in absurd (omega arith)
by_four P f (a ∷ b ∷ []) l = let z : ◌≡◌ {A = ℕ} 2 4 = l in absurd (omega arith)
by_four P f (a ∷ b ∷ c ∷ []) l = let z : ◌≡◌ {A = ℕ} 3 4 = l in absurd (omega arith)
by_four P f (a ∷ b ∷ c ∷ d ∷ []) l = f a b c d
by_four P f (a ∷ b ∷ c ∷ d ∷ e ∷ rs) l = absurd (omega arith)

-- the first n of four ranges, the others put out of use
abbrev pub four_of : List AsciiRange → ℕ → List AsciiRange
four_of rs n =
    used_if (ltb 0 n) (get_or rs 0 (range 0 0)) ∷ used_if (ltb 1 n) (get_or rs 1 (range 0 0)) ∷ used_if (ltb 2 n) (get_or rs 2 (range 0 0))
    ∷ used_if (ltb 3 n) (get_or rs 3 (range 0 0)) ∷ []

none_left : (x n : ℕ) → in_ranges (take n []) x ≡ false
unfolding in_ranges
none_left x zero = refl
none_left x (suc n) = refl

used_of : (x n : ℕ) (a b c d : AsciiRange) → in_ranges (four_of (a ∷ b ∷ c ∷ d ∷ []) n) x ≡ in_ranges (take n (a ∷ b ∷ c ∷ d ∷ [])) x
unfolding in_ranges
used_of x zero a b c d = simp (holds-none x)
used_of x (suc zero) a b c d = simp (holds-none x)
used_of x (suc (suc zero)) a b c d = simp (holds-none x)
used_of x (suc (suc (suc zero))) a b c d = simp (holds-none x)
used_of x (suc (suc (suc (suc n)))) a b c d =
    let m = suc (suc (suc (suc n))) in
    rw (lt-ltb 0 m (omega arith), lt-ltb 1 m (omega arith), lt-ltb 2 m (omega arith), lt-ltb 3 m (omega arith), none_left x n)

four_used : (n : ℕ) (rs : List AsciiRange) → length rs ≡ 4 → (x : ℕ) → in_ranges (four_of rs n) x ≡ in_ranges (take n rs) x
four_used n rs l x = by_four (λ l. in_ranges (four_of l n) x ≡ in_ranges (take n l) x) (used_of x n) rs l

pub scan_used : (rs : List AsciiRange) (n : ℕ) (xs : List ℕ) {a b c d : AsciiRange} {r : ℕ} → r ≡ before (outside (a ∷ b ∷ c ∷ d ∷ [])) xs →
    a ≡ used_if (ltb 0 n) (get_or rs 0 (range 0 0)) → b ≡ used_if (ltb 1 n) (get_or rs 1 (range 0 0)) → c ≡ used_if (ltb 2 n) (get_or rs 2 (range 0 0)) →
    d ≡ used_if (ltb 3 n) (get_or rs 3 (range 0 0)) →
    length rs ≡ 4 → r ≡ before (outside (take n rs)) xs
scan_used rs n xs s e f g h l =
    s ∙ (rw (e, f, g, h) (before_same (outside (four_of rs n)) (outside (take n rs)) (λ x. ap not (four_used n rs l x)) xs))
