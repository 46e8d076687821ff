-- The tests of a row's words, of a range and of a row, by the words that were read. Assumes nothing.
use Prim.Native.Nat.{ℕ, zero, suc, ◌+◌, ◌-◌, ◌/◌, ◌%◌, ◌<◌, ◌≤◌}
use native.Mathlib.Omega.{arith}
use mathlib.Core.Path.{◌≡◌, refl, sym, ap, ◌∙◌}
use mathlib.Core.List.{List}
use mathlib.Core.Bool.{Bool, true, false, ◌&&◌, and-true, and-false}
use lib.Dec.{leb}
use lib.ListN.{length, get_or, take, drop, length-drop}
use lib.Seq.{length-take-le}
use borrow.Author.Rules.{rules}
use Rattle.std.proofs.lemmas.List.{get_or-take, get_or-drop}
use Rattle.rule_words.specs.Rules.{every_from, walk, sized, each_word, good, none_or, present, both_good, follows, searchable, thirds, wide_good, escape_good}
use Rattle.rule_words.specs.Rules.{next_from}
use Rattle.rule_words.proofs.Laws.{past_end, past_all}
use Rattle.rule_rows.specs.Thirds.{range_good}

-- Words that are judged by the targets in them.
pub both_tested : (ns x : ℕ) {p q : Bool} → p ≡ good ns (x % 65536) → q ≡ good ns (x / 65536) → p && q ≡ both_good ns x
unfolding both_good
both_tested ns x d e = rw (d, e)

same_twice : (b : Bool) → (b && b) ≡ b
same_twice true = refl
same_twice false = refl

one_asked : (a b c : Bool) → ((b && a) && c) ≡ (a && (b && c))
one_asked true b c = rw (and-true b)
one_asked false b c = rw (and-false b)

joined : (a b c d : Bool) → b ≡ (c && d) → (a && b) ≡ ((a && c) && d)
joined true b c d h = h
joined false b c d h = refl

module _ (test : ℕ → Bool) (w : List ℕ) where
  -- so many words, and the others behind them
  each_split : (m n k at : ℕ) → k ≡ m + n → each_word test w k at ≡ (each_word test w m at && each_word test w n (at + m))
  unfolding walk every_from
  each_split zero n k at h = let e : k ≡ n = omega arith in let p : at + 0 ≡ at = omega arith in rw (e, p)
  each_split (suc m) n zero at h = absurd (omega arith)
  each_split (suc m) n (suc k) at h =
      let e : at + suc m ≡ at + 1 + m = omega arith in rw e (joined (test (get_or w at 0)) _ _ _ (each_split m n k (at + 1) (omega arith)))

  -- past the end each is 0
  each_past : (n at : ℕ) → length w ≤ at → 0 < n → each_word test w n at ≡ test 0
  unfolding walk every_from
  each_past zero at h k = absurd (omega arith)
  each_past (suc zero) at h k = rw (← past_end w at h) (and-true (test 0))
  each_past (suc (suc n)) at h k = rw (← past_end w at h, each_past (suc n) (at + 1) (omega arith) (omega arith)) (same_twice (test 0))

  -- one more is judged; none is left. i of n are behind
  module _ (all : Bool) (n i : ℕ) {every : Bool} (inv : (all && each_word test w (n - i) i) ≡ every) where
    pub judged_one : {ok : Bool} → i < n → ok ≡ test (get_or w i 0) → ((ok && all) && each_word test w (n - (i + 1)) (i + 1)) ≡ every
    unfolding walk every_from
    judged_one {ok} h o =
        let e : n - i ≡ suc (n - (i + 1)) = omega arith in
        one_asked all ok _ ∙ (rw o (rw e at inv))

    pub judged : n ≤ i → all ≡ every
    unfolding walk
    judged h = let e : n - i ≡ 0 = omega arith in sym (and-true all) ∙ (rw e at inv)

  -- of a slice: the n words at a place
  each_in : (n at m i : ℕ) → i + m ≤ n → each_word test (take n (drop at w)) m i ≡ each_word test w m (at + i)
  unfolding walk every_from
  each_in n at zero i h = refl
  each_in n at (suc m) i h =
      let e : get_or (take n (drop at w)) i 0 ≡ get_or w (at + i) 0 = get_or-take n (drop at w) i 0 (omega arith) ∙ get_or-drop at w i 0 in
      let p : at + i + 1 ≡ at + (i + 1) = omega arith in
      rw (e, p) (ap (λ b. test (get_or w (at + i) 0) && b) (each_in n at m (i + 1) (omega arith)))

  pub row_slice : (n at : ℕ) {m : ℕ} {p : Bool} → m ≡ n → at + n ≤ length w → p ≡ each_word test (take m (drop at w)) (length (take m (drop at w))) 0
      → p ≡ each_word test w n at
  row_slice n at e h k =
      let d : n ≤ length (drop at w) = rw (length-drop at w) (omega arith) in
      let l : length (take n (drop at w)) ≡ n = length-take-le n (drop at w) d in
      let z : at + 0 ≡ at = omega arith in
      rw z at ((rw (e, l) at k) ∙ each_in n at n 0 (omega arith))

  -- a row that ends past the words, or starts there
  pub row_past : (at : ℕ) {r : Bool} → length w ≤ at → r ≡ test 0 → r ≡ each_word test w 64 at
  row_past at h e = e ∙ sym (each_past 64 at h (omega arith))

  pub row-short : (at : ℕ) {p q : Bool} → at < length w → length w - at < 64 → p ≡ each_word test w (length w - at) at → q ≡ test 0
      → p && q ≡ each_word test w 64 at
  row-short at h k d e = rw (d, e)
      (sym (each_split (length w - at) (64 - (length w - at)) 64 at (omega arith)
      ∙ (rw (each_past (64 - (length w - at)) (at + (length w - at)) (omega arith) (omega arith)))))

pub ruleset row_words = (rules, both_tested, judged_one, judged, row_past, row-short)

module _ (w : List ℕ) (at : ℕ) where
  pub follows_tested : (from : ℕ) {x y z : ℕ} → x ≡ get_or w at 0 → y ≡ get_or w (at + 1) 0 → z ≡ x → leb from z && leb x y ≡ follows w from at
  unfolding follows
  follows_tested from d e f = rw (f, d, e)

pub ruleset testing = (rules, follows_tested)

-- One walk over ranges asks both: their order, and their third numbers.
abbrev pub ranges_good : (ℕ → Bool) → List ℕ → ℕ → ℕ → ℕ → Bool
ranges_good test w = walk (range_good test w) (λ from at. next_from w at) (sized 3)

shuffled : (a b c d e : Bool) → c ≡ (d && e) → ((a && b) && c) ≡ ((a && d) && (b && e))
shuffled true true c d e h = h
shuffled true false c d e h = sym (and-false d)
shuffled false b c d e h = refl

pub asks_both : (test : ℕ → Bool) (w : List ℕ) (from n at : ℕ) → ranges_good test w from n at ≡ (searchable w from n at && thirds test w n at)
unfolding walk every_from
asks_both test w from zero at = refl
asks_both test w from (suc n) at = shuffled (follows w from at) (test (get_or w (at + 2) 0)) _ _ _ (asks_both test w (next_from w at) n (at + 3))

pub asks_first : (test : ℕ → Bool) (w : List ℕ) (n at : ℕ) → ranges_good test w 0 (n - 0) at ≡ (searchable w 0 n at && thirds test w n at)
asks_first test w n at = let e : n - 0 ≡ n = omega arith in rw e (asks_both test w 0 n at)

pub range_tested : (test : ℕ → Bool) (w : List ℕ) (from at : ℕ) {x : ℕ} {p q : Bool} → p ≡ follows w from at → q ≡ test x → x ≡ get_or w (at + 2) 0
    → p && q ≡ range_good test w from at
range_tested test w from at d e f = rw (d, e, f)

-- A row past the end lists nothing.
module _ (w : List ℕ) (at : ℕ) where
  pub wide_past : (ns : ℕ) → length w ≤ at → true ≡ wide_good ns w at
  unfolding wide_good walk
  wide_past ns h = rw (← past_end w at h)

  pub wide_tested : (ns : ℕ) {p : Bool} → p ≡ (searchable w 0 (get_or w at 0) (at + 1) && thirds (good ns) w (get_or w at 0) (at + 1)) → p ≡ wide_good ns w at
  unfolding wide_good
  wide_tested ns d = d

  pub escape_past : (nc : ℕ) → length w ≤ at → {r : Bool} → r ≡ none_or nc 0 → r ≡ escape_good nc w at
  unfolding escape_good walk
  escape_past nc h e = e ∙ (rw (← past_end w at h, ← past_all w at 1 h, and-true))

  pub escape_tested : (nc : ℕ) {n : ℕ} {p r : Bool} → p ≡ (searchable w 0 n (at + 2) && thirds (present nc) w n (at + 2)) → n ≡ get_or w (at + 1) 0
      → r ≡ none_or nc (get_or w at 0) → r && p ≡ escape_good nc w at
  unfolding escape_good
  escape_tested nc d e f = rw (d, f, e)

pub ruleset ending = (rules, wide_past, wide_tested, escape_past, escape_tested)
