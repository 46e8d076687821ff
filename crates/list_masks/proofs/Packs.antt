-- How large a mask word is, and how long masks are, over any number of words. Assumes nothing.
use Prim.Native.Nat.{ℕ, zero, suc, ◌*◌, ◌^◌, ◌≤◌, ◌<◌}
use mathlib.Core.Path.{◌≡◌, refl, sym, ap}
use mathlib.Core.Bool.{Bool, true, false}
use mathlib.Core.List.{List, [], ◌∷◌}
use native.Mathlib.Omega.{arith}
use native.Mathlib.Nat.{two-pow-succ, le_trans, suc-mul, mul-le-mul_left}
use lib.ListN.{length, drop, length-append}
use lib.Pow.{pow_mono}
use Rattle.list_transitions.specs.Transition.{Transition, hold_at}
use Rattle.list_masks.specs.Masks.{bit, word_of, pack, words_for, mask_of, masks_at, flat}

pub bit_le : (b : Bool) → bit b ≤ 1
bit_le true = omega arith
bit_le false = omega arith

word_of_lt : (bs : List Bool) → word_of bs < 2 ^ length bs
unfolding word_of
word_of_lt [] = omega arith
word_of_lt (b ∷ bs) = omega (arith, bit_le b, two-pow-succ (length bs), word_of_lt bs)

pub length_hold : (ts : List Transition) (p : ℕ) → length (hold_at ts p) ≡ length ts
unfolding hold_at
length_hold [] p = refl
length_hold (t ∷ ts) p = ap suc (length_hold ts p)

-- a word of fewer than 64 transitions has room for one more bit
pub word_lt : (ts : List Transition) (p : ℕ) → length ts ≤ 63 → word_of (hold_at ts p) < 2 ^ 63
word_lt ts p h =
    let l : length (hold_at ts p) ≤ 63 = omega (arith, length_hold ts p) in
    le_trans (word_of_lt (hold_at ts p)) (pow_mono l)

pub length-pack : (n : ℕ) (bs : List Bool) → length (pack n bs) ≡ n
unfolding pack
length-pack zero bs = refl
length-pack (suc n) bs = ap suc (length-pack n (drop 64 bs))

pub length_mask : (ts : List Transition) (p : ℕ) → length (mask_of ts p) ≡ words_for (length ts)
unfolding mask_of
length_mask ts p = length-pack (words_for (length ts)) _

pub length_masks : (ts : List Transition) (ps : List ℕ) → length (masks_at ts ps) ≡ length ps
unfolding masks_at
length_masks ts [] = refl
length_masks ts (p ∷ ps) = ap suc (length_masks ts ps)

-- Masks one behind another

-- a fact of every mask
abbrev pub Every : (List ℕ → Type 0) → List (List ℕ) → Type 0
Every P [] = Unit {0}
Every P (m ∷ ms) = P m × Every P ms

-- each is of so many words
abbrev pub Wide : ℕ → List (List ℕ) → Type 0
Wide words ms = Every (λ m. length m ≡ words) ms

pub every_mask : (P : List ℕ → Type 0) (ts : List Transition) → ((p : ℕ) → P (mask_of ts p)) → (ps : List ℕ) → Every P (masks_at ts ps)
unfolding masks_at
every_mask P ts h [] = tt
every_mask P ts h (p ∷ ps) = (h p, every_mask P ts h ps)

pub wide_masks : (ts : List Transition) (ps : List ℕ) → Wide (words_for (length ts)) (masks_at ts ps)
wide_masks ts ps = every_mask (λ m. length m ≡ words_for (length ts)) ts (length_mask ts) ps

pub length-flat : (words : ℕ) (ds : List (List ℕ)) → Wide words ds → length (flat ds) ≡ length ds * words
unfolding flat
length-flat words [] a = let z : 0 * words ≡ 0 = omega arith in sym z
length-flat words (d ∷ ds) a = omega (arith, length-append d (flat ds), a.0, length-flat words ds a.1, suc-mul (length ds) words)

-- no list has more than 256 transitions, so that a mask has four words at most
pub few_wide : (words : ℕ) (ms : List (List ℕ)) → words ≤ 4 → Wide words ms → length (flat ms) ≤ 4 * length ms
few_wide words ms h a = omega (arith, length-flat words ms a, mul-le-mul_left (length ms) h)

pub length-matrix : (ts : List Transition) (ps : List ℕ) → length (flat (masks_at ts ps)) ≡ length ps * words_for (length ts)
length-matrix ts ps = rw (← length_masks ts ps) (length-flat (words_for (length ts)) (masks_at ts ps) (wide_masks ts ps))
