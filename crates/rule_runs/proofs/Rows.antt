-- The runs: a row's targets as an array, its classification, and the run of a state. Assumes nothing.
use Prim.Native.Nat.{ℕ, zero, suc, ◌+◌, ◌-◌, ◌*◌, ◌/◌, ◌%◌, ◌<◌, ◌≤◌}
use native.Mathlib.Numerals.{add-one}
use native.Mathlib.Omega.{arith}
use mathlib.Core.Path.{◌≡◌, refl, sym, ap, ◌∙◌}
use mathlib.Core.List.{List, ◌++◌, append_assoc}
use mathlib.Core.Bool.{Bool, true, false}
use lib.Dec.{ltb}
use lib.ListN.{length, get_or, take, drop, set, replicate, length-set, take-append-drop}
use lib.Seq.{take-suc-set, drop-set-lt, drop-drop}
use borrow.Author.Rules.{rules}
use borrow.Author.Tests.{eq-eqb, ltb-true, ltb-false}
use Rattle.refusal.specs.Lists.{pick}
use Rattle.std.specs.Prelude.{Ok}
use Rattle.run_shape.specs.Shape.{held, Got}
use Rattle.run_shape.specs.Classify.{classification, classified}
use Rattle.rule_words.proofs.Laws.{past_end}
use Rattle.rule_words.specs.Rules.{targets, row_of}

-- How many words of a row are there.
abbrev pub there : List ℕ → ℕ → ℕ
there w at = pick (ltb (length w - at) 64) (length w - at) 64

-- The loop that unpacks a row. Its invariant: the targets of the words passed, and behind them those of the words left, are all; what is not
-- unpacked is 0.
pub record Unpacked (w : List ℕ) (at n : ℕ) (row : List ℕ) (i : ℕ) : Type 0 where
  pub counted : n ≡ there w at
  pub few : n ≤ 64
  pub held : n ≤ length w - at
  pub within : i ≤ n
  pub long : length row ≡ 128
  pub passed : take (2 * i) row ++ targets w (64 - i) (at + i) ≡ targets w 64 at
  pub clear : drop (2 * i) row ≡ replicate (128 - 2 * i) 0

there-held : (w : List ℕ) (at : ℕ) → (there w at ≤ 64) × (there w at ≤ length w - at)
there-held w at = go (ltb (length w - at) 64) refl
  where
    go : (b : Bool) → ltb (length w - at) 64 ≡ b → (pick b (length w - at) 64 ≤ 64) × (pick b (length w - at) 64 ≤ length w - at)
    go true e = let k = ltb-true (length w - at) 64 e in omega arith
    go false e = let k = ltb-false (length w - at) 64 e in omega arith

pub unpacked-none : (w : List ℕ) (a start n : ℕ) → n ≡ there w (a + start) → Unpacked w (a + start) n (replicate 128 0) 0
unpacked-none w a start n c =
    let e : a + start + 0 ≡ a + start = omega arith in
    let f = there-held w (a + start) in
    record { counted = c; few = omega arith; held = omega arith; within = omega arith; long = refl; passed = rw e; clear = refl }

unpacked-two : (w : List ℕ) (at n i x y : ℕ) (row : List ℕ) → Unpacked w at n row i → i < 64 → x ≡ get_or w (at + i) 0 % 65536 → y ≡ get_or w (at + i) 0 / 65536
    → take (2 * (i + 1)) (set (set row (2 * i) x) (2 * i + 1) y) ++ targets w (64 - (i + 1)) (at + (i + 1)) ≡ targets w 64 at
unfolding targets
unpacked-two w at n i x y row g h d e =
    let j : 2 * (i + 1) ≡ suc (2 * i + 1) = omega arith in
    let k : 64 - i ≡ suc (64 - (i + 1)) = omega arith in
    let l : at + (i + 1) ≡ at + i + 1 = omega arith in
    let m = g.long in
    let a : 2 * i < length row = omega arith in
    let b : 2 * i + 1 < length (set row (2 * i) x) = omega (arith, length-set row (2 * i) x) in
    rw (j, take-suc-set (set row (2 * i) x) (2 * i + 1) y b, add-one, take-suc-set row (2 * i) x a, append_assoc, append_assoc, l, d, e) (rw k at g.passed)

two_fewer : (i x y : ℕ) (row : List ℕ) → i < 64 → drop (2 * i) row ≡ replicate (128 - 2 * i) 0
    → drop (2 * (i + 1)) (set (set row (2 * i) x) (2 * i + 1) y) ≡ replicate (128 - 2 * (i + 1)) 0
two_fewer i x y row h c =
    let j : 128 - 2 * i ≡ suc (suc (128 - (2 * i + 2))) = omega arith in
    let k : 2 * (i + 1) ≡ 2 * i + 2 = omega arith in
    let a : 2 * i + 1 < 2 * (i + 1) = omega arith in
    let b : 2 * i < 2 * (i + 1) = omega arith in
    rw (drop-set-lt (2 * (i + 1)) (set row (2 * i) x) (2 * i + 1) y a, drop-set-lt (2 * (i + 1)) row (2 * i) x b, k, ← drop-drop 2 (2 * i) row, c, j)

pub unpacked-more : (w : List ℕ) (a start n i : ℕ) (row : List ℕ) {word high : ℕ} → Unpacked w (a + start) n row i → i < n
    → word ≡ get_or w (a + (start + i)) 0 → high ≡ word / 65536 → Unpacked w (a + start) n (set (set row (2 * i) (word % 65536)) (2 * i + 1) high) (i + 1)
unpacked-more w a start n i row {word} {high} g h e d =
    let p : a + (start + i) ≡ a + start + i = omega arith in
    let f : word ≡ get_or w (a + start + i) 0 = e ∙ ap (λ q. get_or w q 0) p in
    let k : i < 64 = omega (arith, g.few) in
    record {
      counted = g.counted;
      few = g.few;
      held = g.held;
      within = omega arith;
      long = length-set (set row (2 * i) (word % 65536)) (2 * i + 1) high ∙ length-set row (2 * i) (word % 65536) ∙ g.long;
      passed = unpacked-two w (a + start) n i (word % 65536) high row g k (rw f) (d ∙ (rw f));
      clear = two_fewer i (word % 65536) high row k g.clear;
    }

-- past the end each target is 0
targets_past : (w : List ℕ) (n m at : ℕ) → length w ≤ at → m ≡ 2 * n → targets w n at ≡ replicate m 0
unfolding targets
targets_past w zero zero at h e = refl
targets_past w zero (suc m) at h e = absurd (omega arith)
targets_past w (suc n) zero at h e = absurd (omega arith)
targets_past w (suc n) (suc zero) at h e = absurd (omega arith)
targets_past w (suc n) (suc (suc m)) at h e = rw (← past_end w at h, targets_past w n m (at + 1) (omega arith) (omega arith))

left_out : (w : List ℕ) (at i : ℕ) → i ≡ there w at → targets w (64 - i) (at + i) ≡ replicate (128 - 2 * i) 0
unfolding targets
left_out w at i = go (ltb (length w - at) 64) refl
  where
    go : (b : Bool) → ltb (length w - at) 64 ≡ b → i ≡ pick b (length w - at) 64 → targets w (64 - i) (at + i) ≡ replicate (128 - 2 * i) 0
    go true e h = let k = ltb-true (length w - at) 64 e in targets_past w (64 - i) (128 - 2 * i) (at + i) (omega arith) (omega arith)
    go false e h =
        let y : 64 - i ≡ 0 = omega arith in
        let z : 128 - 2 * i ≡ 0 = omega arith in
        rw (y, z)

pub unpacked_all : (w : List ℕ) (at n i : ℕ) {row : List ℕ} → Unpacked w at n row i → n ≤ i → row ≡ targets w 64 at
unpacked_all w at n i {row} g h =
    let e : i ≡ n = omega (arith, g.within) in
    sym (take-append-drop (2 * i) row) ∙ (rw (g.clear, ← left_out w at i (e ∙ g.counted)) g.passed)

pub ruleset unpacking = (rules, unpacked-none, unpacked-more, unpacked_all)

-- The classification of a row of 128 targets is a run.
targets_long : (w : List ℕ) (n at : ℕ) → length (targets w n at) ≡ 2 * n
unfolding targets
targets_long w zero at = refl
targets_long w (suc n) at = omega (arith, targets_long w n (at + 1))

pub is_run : (w : List ℕ) (a k state : ℕ) {row : List ℕ} {q : Got} → row ≡ row_of w a k → q ≡ classified state row → q ≡ Ok (held (classification state (row_of w a k)))
unfolding classified
is_run w a k state e g = rw (e, eq-eqb (length (row_of w a k)) 128 (targets_long w 64 (a + (1 + 64 * k)))) at g
