-- MASK LAW: bit b of word k of a mask is the bit at 64 k + b, over any number of words; and a mask is empty just where no bit is set. Assumes nothing.
use Prim.Native.Nat.{ℕ, zero, suc, ◌+◌, ◌*◌, ◌/◌, ◌%◌, ◌^◌, ◌<◌}
use mathlib.Core.Path.{◌≡◌, refl, sym, ap, ap₂, ◌∙◌}
use mathlib.Core.Bool.{Bool, true, false, and-eq-true_iff}
use mathlib.Core.List.{List, [], ◌∷◌}
use native.Mathlib.Omega.{arith}
use native.Mathlib.Nat.{zero-div}
use lib.ListN.{length, get_or, take, drop}
use lib.Seq.{get_or-take, get_or-drop, drop-drop}
use lib.Pow.{shr-shr}
use lib.Dec.{eqb}
use borrow.Author.Tests.{eqb-true}
use Rattle.buffer.specs.Over.{zeros}
use Rattle.list_masks.specs.Masks.{bit, word_of, pack, is_zero}
use Rattle.list_masks.proofs.Packs.{bit_le}

pub bit_inj : (b c : Bool) → bit b ≡ bit c → b ≡ c
bit_inj true true e = refl
bit_inj true false e = absurd (omega arith)
bit_inj false true e = absurd (omega arith)
bit_inj false false e = refl

word_of_bit : (bs : List Bool) (i : ℕ) → word_of bs / 2 ^ i % 2 ≡ bit (get_or bs i false)
unfolding word_of
word_of_bit [] i = rw (zero-div (2 ^ i))
word_of_bit (b ∷ bs) zero = omega (arith, bit_le b)
word_of_bit (b ∷ bs) (suc i) =
    let x : ℕ = bit b + 2 * word_of bs in
    let half : x / 2 ^ 1 ≡ word_of bs = omega (arith, bit_le b) in
    let down : suc i ≡ 1 + i = omega arith in
    ap (λ (j : ℕ). x / 2 ^ j % 2) down ∙ ap (λ (y : ℕ). y % 2) (sym (shr-shr x 1 i)) ∙ ap (λ (y : ℕ). y / 2 ^ i % 2) half ∙ word_of_bit bs i

get_d_pack : (n : ℕ) (bs : List Bool) (k : ℕ) → k < n → get_or (pack n bs) k 0 ≡ word_of (take 64 (drop (64 * k) bs))
unfolding pack
get_d_pack zero bs k h = absurd (omega arith)
get_d_pack (suc n) bs zero h = refl
get_d_pack (suc n) bs (suc k) h =
    let next : 64 + 64 * k ≡ 64 * suc k = omega arith in
    get_d_pack n (drop 64 bs) k (omega arith)
    ∙ ap (λ (l : List Bool). word_of (take 64 l)) (drop-drop (64 * k) 64 bs ∙ ap (λ (m : ℕ). drop m bs) next)

-- MASK LAW: bit b of word k is the bit at 64 k + b
pub pack-bit : (n : ℕ) (bs : List Bool) (k b : ℕ) → k < n → b < 64 → get_or (pack n bs) k 0 / 2 ^ b % 2 ≡ bit (get_or bs (64 * k + b) false)
pack-bit n bs k b h g =
    let part : List Bool = drop (64 * k) bs in
    rw (get_d_pack n bs k h) (word_of_bit (take 64 part) b ∙ ap bit (get_or-take 64 part b false g ∙ get_or-drop (64 * k) bs b false))

-- no bit
abbrev pub Blank : List Bool → Type 0
Blank [] = Unit {0}
Blank (b ∷ bs) = (b ≡ false) × Blank bs

blank-drop : (n : ℕ) (bs : List Bool) → Blank bs → Blank (drop n bs)
blank-drop zero bs h = h
blank-drop (suc n) [] h = h
blank-drop (suc n) (b ∷ bs) h = blank-drop n bs h.1

blank-take : (n : ℕ) (bs : List Bool) → Blank bs → Blank (take n bs)
blank-take zero bs h = tt
blank-take (suc n) [] h = h
blank-take (suc n) (b ∷ bs) h = (h.0, blank-take n bs h.1)

blank-word : (bs : List Bool) → Blank bs → word_of bs ≡ 0
unfolding word_of
blank-word [] h = refl
blank-word (b ∷ bs) h = rw (h.0, blank-word bs h.1)

pub blank-zero : (n : ℕ) (bs : List Bool) → Blank bs → is_zero (pack n bs) ≡ true
unfolding pack is_zero
blank-zero zero bs h = refl
blank-zero (suc n) bs h = rw (blank-word (take 64 bs) (blank-take 64 bs h)) (blank-zero n (drop 64 bs) (blank-drop 64 bs h))

zero_get_d : (ws : List ℕ) (k : ℕ) → is_zero ws ≡ true → get_or ws k 0 ≡ 0
unfolding is_zero
zero_get_d [] k e = refl
zero_get_d (w ∷ ws) zero e = eqb-true w 0 ((and-eq-true_iff (eqb w 0) (is_zero ws)).0 e).0
zero_get_d (w ∷ ws) (suc k) e = zero_get_d ws k ((and-eq-true_iff (eqb w 0) (is_zero ws)).0 e).1

-- an empty mask has no bit
pub zero-blank : (n : ℕ) (bs : List Bool) (i : ℕ) → is_zero (pack n bs) ≡ true → i < 64 * n → get_or bs i false ≡ false
zero-blank n bs i z h =
    let k : ℕ = i / 64 in
    let b : ℕ = i % 64 in
    let parts : 64 * k + b ≡ i = omega arith in
    let kn : k < n = omega arith in
    let bl : b < 64 = omega arith in
    let none : bit (get_or bs (64 * k + b) false) ≡ bit false =
    sym (pack-bit n bs k b kn bl) ∙ ap (λ (w : ℕ). w / 2 ^ b % 2) (zero_get_d (pack n bs) k z) ∙ ap (λ (w : ℕ). w % 2) (zero-div (2 ^ b)) in
    bit_inj _ _ (rw parts at none)

-- the empty mask is zeros
pub zero-zeros : (m : List ℕ) → is_zero m ≡ true → m ≡ zeros (length m)
unfolding is_zero
zero-zeros [] z = refl
zero-zeros (w ∷ ws) z =
    let both : (eqb w 0 ≡ true) × (is_zero ws ≡ true) = (and-eq-true_iff (eqb w 0) (is_zero ws)).0 z in
    ap₂ {C = List ℕ} (λ x xs. x ∷ xs) (eqb-true w 0 both.0) (zero-zeros ws both.1)
