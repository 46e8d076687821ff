-- The laws of writing masks: the words of one, and the masks of all segments. w is the list's bytes, `at` a record's offset. Assumes nothing.
use mathlib.Core.Path.{◌≡◌, ap, ap₂}
use mathlib.Core.List.{List, ◌∷◌, ◌++◌}
use mathlib.Core.Bool.{Bool}
use Prim.Native.Nat.{ℕ, zero, suc, ◌+◌, ◌*◌, ◌-◌, ◌<◌, ◌≤◌, min}
use native.Mathlib.Omega.{arith}
use borrow.Author.Rules.{rules}
use lib.ListN.{length, get_or, take, drop, set}
use Rattle.buffer.specs.Over.{Put}
use Rattle.buffer.proofs.Going.{Going, going_start, going_done, going_room, going_turn, going_place, going_put}
use Rattle.list_transitions.specs.Transition.{Transition, holds, hold_at}
use Rattle.list_transitions.specs.Walk.{trans_at, next_at, trans_from, Fit}
use Rattle.list_masks.specs.Masks.{word_of, pack, words_for, mask_of, masks_at, flat}
use Rattle.list_masks.specs.Walk.{next_of, lows}
use Rattle.list_masks.proofs.Words.{length_trans}

-- The first records of so many, and those behind

module _ (w : List ℕ) (point : ℕ) where
  take_hold : (k m n at : ℕ) → m ≡ min n k → take k (hold_at (trans_from w n at) point) ≡ hold_at (trans_from w m at) point
  unfolding hold_at trans_from
  take_hold zero m n at e = let z : m ≡ 0 = omega arith in rw z
  take_hold (suc k) m zero at e = let z : m ≡ 0 = omega arith in rw z
  take_hold (suc k) zero (suc n) at e = absurd (omega arith)
  take_hold (suc k) (suc m) (suc n) at e = ap (λ (l : List Bool). holds (trans_at w at) point ∷ l) (take_hold k m n (next_at w at) (omega arith))

  drop_hold : (k m n at : ℕ) → m ≡ min n k → drop k (hold_at (trans_from w n at) point) ≡ hold_at (trans_from w (n - m) (next_of w m at)) point
  unfolding hold_at trans_from next_of
  drop_hold zero m n at e = let z : m ≡ 0 = omega arith in let y : n - 0 ≡ n = omega arith in rw (z, y)
  drop_hold (suc k) m zero at e = let y : 0 - m ≡ 0 = omega arith in rw y
  drop_hold (suc k) zero (suc n) at e = absurd (omega arith)
  drop_hold (suc k) (suc m) (suc n) at e = let y : suc n - suc m ≡ n - m = omega arith in rw y (drop_hold k m n (next_at w at) (omega arith))

module _ (w : List ℕ) where
  pub fit_front : (k r n at : ℕ) → n ≡ k + r → Fit w n at → Fit w k at
  unfolding Fit
  fit_front zero r n at e s = tt
  fit_front (suc k) r zero at e s = absurd (omega arith)
  fit_front (suc k) r (suc n) at e s = (s.0, s.1, s.2, fit_front k r n (next_at w at) (omega arith) s.3)

  pub fit_rest : (k r n at : ℕ) → n ≡ k + r → Fit w n at → Fit w r (next_of w k at)
  unfolding Fit next_of
  fit_rest zero r n at e s = let p : r ≡ n = omega arith in rw p s
  fit_rest (suc k) r zero at e s = absurd (omega arith)
  fit_rest (suc k) r (suc n) at e s = fit_rest k r n (next_at w at) (omega arith) s.3

-- The loop over the words of a mask, 64 records each

module _ (w : List ℕ) (left at point : ℕ) {few : ℕ} (n : 0 < left) (f : few ≡ min left 64) where
  parts : left ≡ few + (left - few)
  parts = omega arith

  mask_open : mask_of (trans_from w left at) point ≡ word_of (hold_at (trans_from w few at) point) ∷ mask_of (trans_from w (left - few) (next_of w few at)) point
  unfolding mask_of pack
  mask_open =
      let a : length (trans_from w left at) ≡ left = length_trans w left at in
      let b : length (trans_from w (left - few) (next_of w few at)) ≡ left - few = length_trans w (left - few) (next_of w few at) in
      let c : words_for left ≡ suc (words_for (left - few)) = omega arith in
      rw (a, b, c)
      (ap₂ {C = List ℕ} (λ x y. word_of x ∷ pack (words_for (left - few)) y) (take_hold w point 64 few left at f) (drop_hold w point 64 few left at f))

  module _ (xs : List ℕ) (k : ℕ) (old : List ℕ) (m : ℕ) (out : List ℕ) (g : Going xs k old (mask_of (trans_from w left at) point) m out) where
    pub mask_room : m < length out
    mask_room =
        going_place xs k old (mask_of (trans_from w (left - few) (next_of w few at)) point) m out (word_of (hold_at (trans_from w few at) point)) (rw mask_open at g)

    pub mask_turn : {x next : ℕ} → x ≡ word_of (hold_at (trans_from w few at) point) → next ≡ next_of w few at →
        Going xs k old (mask_of (trans_from w (left - few) next) point) (m + 1) (set out m x)
    mask_turn {x} e h =
        rw (h, e)
        (going_put xs k old (mask_of (trans_from w (left - few) (next_of w few at)) point) m out (word_of (hold_at (trans_from w few at) point)) (rw mask_open at g))

  pub mask_front : Fit w left at → Fit w few at
  mask_front s = fit_front w few (left - few) left at parts s

  pub mask_rest : {next : ℕ} → next ≡ next_of w few at → Fit w left at → Fit w (left - few) next
  mask_rest h s = rw h (fit_rest w few (left - few) left at parts s)

pub mask_done : (w : List ℕ) (left at point : ℕ) (xs : List ℕ) (k : ℕ) (old : List ℕ) (m : ℕ) (out : List ℕ) → left ≤ 0 →
    Going xs k old (mask_of (trans_from w left at) point) m out → Put xs k old m out
unfolding mask_of pack trans_from
mask_done w zero at point xs k old m out n g = going_done xs k old g
mask_done w (suc left) at point xs k old m out n g = absurd (omega arith)

pub ruleset masking = (rules, going_start, mask_room, mask_turn, mask_front, mask_rest, mask_done)

-- The loop over the segments

module _ (ts : List Transition) (ns : List ℕ) (count i : ℕ) where
  abbrev rest : List ℕ
  rest = flat (masks_at ts (lows ns (count - (i + 1)) (2 * (i + 1))))

  matrix_open : i < count → flat (masks_at ts (lows ns (count - i) (2 * i))) ≡ mask_of ts (get_or ns (2 * i) 0) ++ rest
  unfolding flat masks_at lows
  matrix_open h =
      let a : count - i ≡ suc (count - (i + 1)) = omega arith in
      let b : 2 * (i + 1) ≡ 2 * i + 2 = omega arith in
      rw (a, b)

  module _ (xs : List ℕ) (b : ℕ) (old : List ℕ) (k : ℕ) (out : List ℕ) (g : Going xs b old (flat (masks_at ts (lows ns (count - i) (2 * i)))) k out) where
    pub matrix-room : i < count → k + length (mask_of ts (get_or ns (2 * i) 0)) ≤ length out
    matrix-room h = going_room xs b old rest k out (mask_of ts (get_or ns (2 * i) 0)) (rw (matrix_open h) at g)

    pub matrix_turn : {r : ℕ} {new : List ℕ} → i < count → Put (mask_of ts (get_or ns (2 * i) 0)) k out r new →
        Going xs b old (flat (masks_at ts (lows ns (count - (i + 1)) (2 * (i + 1))))) r new
    matrix_turn h p = going_turn xs b old rest k out (mask_of ts (get_or ns (2 * i) 0)) p (rw (matrix_open h) at g)

    pub matrix_done : count ≤ i → Put xs b old k out
    unfolding flat masks_at lows
    matrix_done h = let z : count - i ≡ 0 = omega arith in going_done xs b old (rw z at g)

pub matrix_start : (ts : List Transition) (ns : List ℕ) (count : ℕ) (old : List ℕ) → 0 + length (flat (masks_at ts (lows ns count 0))) ≤ length old →
    Going (flat (masks_at ts (lows ns count 0))) 0 old (flat (masks_at ts (lows ns (count - 0) (2 * 0)))) 0 old
matrix_start ts ns count old h =
    let e : count - 0 ≡ count = omega arith in
    rw e (going_start (flat (masks_at ts (lows ns count 0))) 0 old h)

pub ruleset matrices = (rules, matrix_start, matrix-room, matrix_turn, matrix_done)
