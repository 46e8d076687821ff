-- The laws of filling the masks record by record, one word for each segment. t is a record's transition, ns the numbers of the segments, w the
-- list's bytes. Assumes nothing.
use mathlib.Core.Path.{◌≡◌, refl, sym, ap, ap₂, ◌∙◌}
use mathlib.Core.List.{List, [], ◌∷◌, ◌++◌, append_assoc}
use Prim.Native.Nat.{ℕ, zero, suc, ◌+◌, ◌*◌, ◌-◌, ◌^◌, ◌<◌, ◌≤◌}
use native.Mathlib.Omega.{arith}
use borrow.Author.Rules.{rules}
use lib.ListN.{length, get_or, take, drop, set, length-set, take-append-drop}
use lib.Seq.{drop-cons, drop-set-lt, get_or-set_other, take_all, take-suc-set}
use mir.Val.{Fits}
use mir.Syntax.{w64}
use Rattle.buffer.specs.Over.{over, lay, Put, zeros}
use Rattle.list_transitions.specs.Transition.{Transition, origin, holds, hold_at}
use Rattle.list_transitions.specs.Walk.{trans_at, next_at, trans_from, Fit}
use Rattle.list_masks.specs.Masks.{bit, word_of, pack, words_for, mask_of, masks_at, flat}
use Rattle.list_masks.specs.Walk.{next_of, by_low, Covers, lows, column, stacked, Columned}
use Rattle.list_masks.proofs.Packs.{length_hold, word_lt, length-matrix}
use Rattle.list_masks.proofs.Holds.{tells_none, held_is}
use Rattle.list_masks.proofs.Words.{length_trans}
use Rattle.list_masks.proofs.Puts.{fit_front, fit_rest}

-- The loop over the words of one column

pub record Filling (t : Transition) (ns : List ℕ) (count : ℕ) (old : List ℕ) (k : ℕ) (out : List ℕ) : Type 0 where
  pub room : count ≤ length out
  pub small : (i : ℕ) → k ≤ i → i < count → get_or out i 0 < 2 ^ 63
  pub size : length out ≡ length old
  pub is : take k out ++ column t (lows ns (count - k) (2 * k)) (drop k out) ≡ column t (lows ns count 0) old

pub fill_begin : (t : Transition) (ns : List ℕ) (count : ℕ) (old : List ℕ) → Columned count old → Filling t ns count old 0 old
fill_begin t ns count old c =
    let e : count - 0 ≡ count = omega arith in
    record { room = c.room; small = λ i _ l. c.small i l; size = refl; is = rw e refl }

module _ (t : Transition) (ns : List ℕ) (count : ℕ) (old : List ℕ) (k : ℕ) (out : List ℕ) (f : Filling t ns count old k out) where
  module _ (n : k < count) where
    pub fill_here : k < length out
    fill_here = omega (arith, f.room)

    pub fill_double : Fits w64 (2 * get_or out k 0)
    fill_double = omega (arith, f.small k (omega arith) (omega arith))

    pub fill_sum : {b : ℕ} → b ≤ 1 → Fits w64 (b + 2 * get_or out k 0)
    fill_sum l = omega (arith, f.small k (omega arith) (omega arith))

    abbrev rest : List ℕ
    rest = column t (lows ns (count - (k + 1)) (2 * (k + 1))) (drop (k + 1) out)

    open_column : column t (lows ns (count - k) (2 * k)) (drop k out) ≡ (bit (holds t (get_or ns (2 * k) 0)) + 2 * get_or out k 0) ∷ rest
    unfolding column lows
    open_column =
        let e : count - k ≡ suc (count - (k + 1)) = omega arith in
        let g : 2 * k + 2 ≡ 2 * (k + 1) = omega arith in
        let one : suc k ≡ k + 1 = omega arith in
        let d : drop k out ≡ get_or out k 0 ∷ drop (k + 1) out = drop-cons out k 0 fill_here ∙ ap (λ (j : ℕ). get_or out k 0 ∷ drop j out) one in
        ap₂ (λ (j : ℕ) (l : List ℕ). column t (lows ns j (2 * k)) l) e d
        ∙ ap
        (λ (i : ℕ). (bit (holds t (get_or ns (2 * k) 0)) + 2 * get_or out k 0) ∷ column t (lows ns (count - (k + 1)) i) (drop (k + 1) out))
        g

    pub fill_next : {tag q floor low high b : ℕ} → q ≡ get_or ns (2 * k) 0 + origin → Covers t tag q floor low high → b ≡ bit (by_low tag low q) →
        Filling t ns count old (k + 1) (set out k (b + 2 * get_or out k 0))
    fill_next {tag} {b = b} i c e =
        let x : ℕ = b + 2 * get_or out k 0 in
        let same : x ≡ bit (holds t (get_or ns (2 * k) 0)) + 2 * get_or out k 0 =
        ap (λ (j : ℕ). j + 2 * get_or out k 0) (held_is t tag (get_or ns (2 * k) 0) i c e) in
        let one : k + 1 ≡ suc k = omega arith in
        let front : take (k + 1) (set out k x) ≡ take k out ++ (x ∷ []) = ap (λ (j : ℕ). take j (set out k x)) one ∙ take-suc-set out k x fill_here in
        record {
          room = omega (arith, f.room, length-set out k x);
          small = λ i l m. rw (get_or-set_other out k i x 0 (λ q. omega arith)) (f.small i (omega arith) m);
          size = length-set out k x ∙ f.size;
          is = (rw (front, drop-set-lt (k + 1) out k x (omega arith), append_assoc (take k out) (x ∷ []) rest))
              ∙ ap (λ (l : List ℕ). take k out ++ l) (ap (λ (y : ℕ). y ∷ rest) same ∙ sym open_column)
              ∙ f.is;
        }

  pub fill_end : count ≤ k → out ≡ column t (lows ns count 0) old
  unfolding column lows
  fill_end z = let e : count - k ≡ 0 = omega arith in sym (take-append-drop k out) ∙ (rw e at f.is)

pub ruleset columns = (rules, tells_none, fill_begin, fill_here, fill_double, fill_sum, fill_next, fill_end)

-- The columns of all records, over zeros, are the masks of one word

length-lows : (ns : List ℕ) (k at : ℕ) → length (lows ns k at) ≡ k
unfolding lows
length-lows ns zero at = refl
length-lows ns (suc k) at = ap suc (length-lows ns k (at + 2))

length-column : (t : Transition) (ps xs : List ℕ) → length (column t ps xs) ≡ length xs
unfolding column
length-column t [] xs = refl
length-column t (p ∷ ps) [] = refl
length-column t (p ∷ ps) (x ∷ xs) = ap suc (length-column t ps xs)

stacked-none : (ts : List Transition) (xs : List ℕ) → stacked ts [] xs ≡ xs
unfolding stacked column
stacked-none [] xs = refl
stacked-none (t ∷ ts) xs = stacked-none ts xs

stacked-word : (ts : List Transition) (p : ℕ) (ps xs : List ℕ) → stacked ts (p ∷ ps) (0 ∷ xs) ≡ word_of (hold_at ts p) ∷ stacked ts ps xs
unfolding stacked column word_of hold_at
stacked-word [] p ps xs = refl
stacked-word (t ∷ ts) p ps xs = ap (column t (p ∷ ps)) (stacked-word ts p ps xs)

module _ (ts : List Transition) where
  stacked_small : length ts ≤ 63 → (ps : List ℕ) (n : ℕ) → length ps ≤ n → (i : ℕ) → i < length ps →
      get_or (stacked ts ps (zeros n)) i 0 < 2 ^ 63
  stacked_small f [] n r i h = absurd (omega arith)
  stacked_small f (p ∷ ps) zero r i h = absurd (omega arith)
  stacked_small f (p ∷ ps) (suc n) r zero h = rw (stacked-word ts p ps (zeros n)) (word_lt ts p f)
  stacked_small f (p ∷ ps) (suc n) r (suc i) h = rw (stacked-word ts p ps (zeros n)) (stacked_small f ps n (omega arith) i (omega arith))

  module _ (some : 0 < length ts) (few : length ts ≤ 64) where
    one_word : words_for (length ts) ≡ 1
    one_word = omega arith

    one_mask : (p : ℕ) → mask_of ts p ≡ word_of (hold_at ts p) ∷ []
    unfolding mask_of pack
    one_mask p = rw (one_word, take_all 64 (hold_at ts p) (omega (arith, length_hold ts p)))

    stacked_masks : (ps : List ℕ) (n : ℕ) → length ps ≤ n → stacked ts ps (zeros n) ≡ over (flat (masks_at ts ps)) (zeros n)
    unfolding flat masks_at over
    stacked_masks [] n r = stacked-none ts (zeros n)
    stacked_masks (p ∷ ps) zero r = absurd (omega arith)
    stacked_masks (p ∷ ps) (suc n) r =
        rw (stacked-word ts p ps (zeros n), one_mask p) (ap (λ (l : List ℕ). word_of (hold_at ts p) ∷ l) (stacked_masks ps n (omega arith)))

    all_words : (ps : List ℕ) → length (flat (masks_at ts ps)) ≡ length ps
    all_words ps = omega (arith, length-matrix ts ps, ap (λ (k : ℕ). length ps * k) one_word)

-- The loop over the records, from the last

one : ◌≡◌ {A = ℕ} 1 0 → ⊥
one z = omega arith

next_snoc : (w : List ℕ) (i at : ℕ) → next_of w (suc i) at ≡ next_at w (next_of w i at)
unfolding next_of
next_snoc w zero at = refl
next_snoc w (suc i) at = next_snoc w i (next_at w at)

pub record Columning (w : List ℕ) (n : ℕ) (ns : List ℕ) (count : ℕ) (old : List ℕ) (i : ℕ) (out : List ℕ) : Type 0 where
  pub more : i ≤ n
  pub few : n ≤ 64
  pub room : count ≤ length old
  pub empty : old ≡ zeros (length old)
  pub size : length out ≡ length old
  pub is : out ≡ stacked (trans_from w (n - i) (next_of w i 0)) (lows ns count 0) old

pub column-start : (w : List ℕ) (n : ℕ) (ns : List ℕ) (count : ℕ) (old : List ℕ) → old ≡ zeros (length old) → n ≤ 64 →
    count ≤ length old →
    Columning w n ns count old n old
unfolding trans_from stacked
column-start w n ns count old z f r =
    let e : n - n ≡ 0 = omega arith in
    record { more = omega arith; few = f; room = r; empty = z; size = refl; is = rw e refl }

module _ (w : List ℕ) (n : ℕ) (ns : List ℕ) (count : ℕ) (old : List ℕ) (i : ℕ) (out : List ℕ) (c : Columning w n ns count old i out) where
  abbrev ps : List ℕ
  ps = lows ns count 0

  fits : length ps ≤ length old
  fits = omega (arith, length-lows ns count 0, c.room)

  pub column-front : 0 < i → Fit w n 0 → Fit w (i - 1) 0
  column-front h s = fit_front w (i - 1) (n - (i - 1)) n 0 (omega (arith, c.more)) s

  module _ (h : 0 < i) {at : ℕ} (e : at ≡ next_of w (i - 1) 0) where
    abbrev ts : List Transition
    ts = trans_from w (n - i) (next_of w i 0)

    pub column_fit : Fit w n 0 → Fit w 1 at
    column_fit s =
        rw e
        (fit_front w 1 (n - i) (n - (i - 1)) (next_of w (i - 1) 0) (omega (arith, c.more))
        (fit_rest w (i - 1) (n - (i - 1)) n 0 (omega (arith, c.more)) s))

    pub column-room : Columned count out
    column-room =
        let few : length ts ≤ 63 = omega (arith, length_trans w (n - i) (next_of w i 0), c.few) in
        let is : out ≡ stacked ts ps (zeros (length old)) = c.is ∙ ap (stacked ts ps) c.empty in
        record {
          room = omega (arith, c.size, c.room);
          small = λ k l. rw is (stacked_small ts few ps (length old) fits k (omega (arith, length-lows ns count 0)));
        }

    pub column_turn : {t : Transition} {new : List ℕ} → t ≡ trans_at w at → new ≡ column t (lows ns count 0) out → Columning w n ns count old (i - 1) new
    unfolding trans_from stacked
    column_turn {t} {new} u g' =
        let g : new ≡ column (trans_at w at) (lows ns count 0) out = rw u at g' in
        let a : n - (i - 1) ≡ suc (n - i) = omega (arith, c.more) in
        let b : i ≡ suc (i - 1) = omega arith in
        let d : next_of w i 0 ≡ next_at w at = ap (λ (j : ℕ). next_of w j 0) b ∙ next_snoc w (i - 1) 0 ∙ ap (next_at w) (sym e) in
        record {
          more = omega (arith, c.more);
          few = c.few;
          room = c.room;
          empty = c.empty;
          size = ap length g ∙ length-column (trans_at w at) ps out ∙ c.size;
          is = rw (← e, a, ← d) (g ∙ ap (column (trans_at w at) ps) c.is);
        }

  pub column_done : i ≤ 0 → 0 < n → Put (flat (masks_at (trans_from w n 0) (lows ns count 0))) 0 old count out
  unfolding next_of lay
  column_done z h =
      let e : i ≡ 0 = omega arith in
      let m : n - 0 ≡ n = omega arith in
      let some : 0 < length (trans_from w n 0) = omega (arith, length_trans w n 0) in
      let few : length (trans_from w n 0) ≤ 64 = omega (arith, length_trans w n 0, c.few) in
      let is : out ≡ stacked (trans_from w n 0) ps old = rw (e, m) at c.is in
      record {
        next = omega (arith, all_words (trans_from w n 0) some few ps, length-lows ns count 0);
        is = is ∙ (rw c.empty (stacked_masks (trans_from w n 0) some few ps (length old) fits));
      }

pub ruleset columning = (rules, column-start, column-front, column_fit, column-room, column_turn, column_done)

-- There is room for a word for each segment

pub words_room : (w : List ℕ) (n : ℕ) (ns : List ℕ) (count : ℕ) {m : ℕ} → 0 + length (flat (masks_at (trans_from w n 0) (lows ns count 0))) ≤ m →
    0 < n → n ≤ 64 → count ≤ m
words_room w n ns count h l f =
    let e : length (trans_from w n 0) ≡ n = length_trans w n 0 in
    omega (arith, all_words (trans_from w n 0) (omega arith) (omega arith) (lows ns count 0), length-lows ns count 0)

pub ruleset choosing = (rules, words_room)
