-- What is read in the buffers that a call leaves is what its list gives: a row that is searched, a mask's bits, and the mask of the segment that has a point.
-- ts is the list, d what a search gives where no range holds the point. Assumes nothing.
use Prim.Native.Nat.{ℕ, zero, suc, ◌+◌, ◌*◌, ◌-◌, ◌/◌, ◌%◌, ◌^◌, ◌≤◌, ◌<◌}
use native.Mathlib.Nat.{suc-mul, zero-mul, zero-div}
use native.Mathlib.Omega.{arith}
use mathlib.Core.Path.{◌≡◌, refl, sym, ap, ◌∙◌}
use mathlib.Core.Bool.{Bool, true, false, ◌&&◌}
use mathlib.Core.List.{List, [], ◌∷◌, ◌++◌, append_assoc}
use lib.Dec.{leb, ltb}
use lib.ListN.{length, get_or, take, drop, take-append-drop, get_or-replicate, get_or-append}
use lib.Seq.{take_at}
use borrow.Author.Tests.{lt-ltb, le-ltb, le-leb, lt-leb}
use Rattle.refusal.specs.Lists.{pick}
use Rattle.buffer.specs.Over.{zeros, padded}
use Rattle.look_row.specs.Search.{found, given}
use Rattle.law_tables.proofs.Codec.{At, start, same, on, to, at_head}
use Rattle.law_lookups.specs.Looks.{goal_at}
use Rattle.law_lookups.proofs.Stands.{at_number}
use Rattle.list_transitions.specs.Transition.{Transition, points}
use Rattle.list_transitions.proofs.Accepted.{AllInOrder}
use Rattle.list_transitions.proofs.Order.{le_cases}
use Rattle.list_segments.specs.Segments.{Asc, cuts_of, starts, starts_from, segments, segments_from}
use Rattle.list_masks.specs.Masks.{bit, words_for, mask_of, masks_at, matrix, flat, distinct_of}
use Rattle.list_masks.proofs.Packs.{length_mask, Wide, wide_masks, length-flat}
use Rattle.list_masks.proofs.Keeps.{wide_distinct}
use Rattle.law_rows.specs.Row.{Row, numbers}
use Rattle.law_rows.specs.Demand.{held_by, mask_bit, segment_mask_from, segment_mask_over}
use Rattle.law_rows.proofs.Built.{asc_cuts}
use Rattle.law_rows.proofs.Looks.{mask_exact}
use Rattle.law_rows.proofs.Flips.{segment_mask_lem}
use Rattle.law_rows.proofs.Found.{found_is}
use Rattle.row_build.proofs.Joining.{length-numbers}
use Rattle.lexer_dfa.specs.Demand3.{bit_at, searched_for, bit_from, point_bit}
use Rattle.std.specs.Prelude.{Ok}

-- Numbers in front of zeros

module _ (n : ℕ) (xs : List ℕ) where
  pub padded_at : (i : ℕ) → i < length xs → get_or (padded n xs) i 0 ≡ get_or xs i 0
  unfolding padded
  padded_at i h = get_or-append xs (zeros (n - length xs)) 0 i h

  pub padded-front : take (length xs) (padded n xs) ≡ xs
  unfolding padded
  padded-front = take_at xs (zeros (n - length xs)) (length xs) refl

  pub padded-stands : At (padded n xs) 0 (xs ++ zeros (n - length xs))
  unfolding padded
  padded-stands = start (xs ++ zeros (n - length xs))

-- A row that is searched in its buffer

pub searched_is : (d n : ℕ) (rs : Row) (p : ℕ) → searched_for d (padded n (numbers rs)) (length (numbers rs)) p ≡ goal_at d rs p
searched_is d n rs p =
    let threes : length (numbers rs) / 3 ≡ length rs = omega (arith, length-numbers rs) in
    ap (λ (k : ℕ). given (Ok (found (padded n (numbers rs)) p k 0)) (λ goal. goal) d d) threes
    ∙ found_is d (padded n (numbers rs)) p 0 rs (zeros (n - length (numbers rs))) (padded-stands n (numbers rs))

-- .. is searched as a row of the same numbers is in a table
pub searched-front : (d : ℕ) (buffer : List ℕ) (n : ℕ) (rs : Row) (p : ℕ) → n ≡ length (numbers rs) → numbers rs ≡ take n buffer
    → searched_for d buffer n p ≡ goal_at d rs p
searched-front d buffer n rs p size e =
    let threes : n / 3 ≡ length rs = omega (arith, length-numbers rs) in
    let stands : At buffer 0 (numbers rs ++ drop n buffer) =
    same (start buffer) (sym (take-append-drop n buffer) ∙ ap (λ (x : List ℕ). x ++ drop n buffer) (sym e)) in
    ap (λ (k : ℕ). given (Ok (found buffer p k 0)) (λ goal. goal) d d) threes ∙ found_is d buffer p 0 rs (drop n buffer) stands

-- A mask in its buffer

pub bit_at_lem : {buffer : List ℕ} {at : ℕ} (m post : List ℕ) (i : ℕ) → At buffer at (m ++ post) → i / 64 < length m → bit_at buffer at i ≡ mask_bit m i
bit_at_lem m post i a h = ap (λ (w : ℕ). w / 2 ^ (i % 64) % 2) (at_number m post (i / 64) a h)

-- mask k of masks that stand one behind another, of so many words each
pub bit-flat : {buffer : List ℕ} (words : ℕ) (ds : List (List ℕ)) (at : ℕ) (post : List ℕ) (k i : ℕ) → Wide words ds → At buffer at (flat ds ++ post) →
    k < length ds → i / 64 < words → bit_at buffer (at + k * words) i ≡ mask_bit (get_or ds k []) i
unfolding flat
bit-flat words [] at post k i v a h l = absurd (omega arith)
bit-flat {buffer} words (d ∷ ds) at post zero i v a h l =
    let here : at + 0 * words ≡ at = ap (λ (n : ℕ). at + n) (zero-mul words) ∙ omega arith in
    ap (λ (n : ℕ). bit_at buffer n i) here ∙ bit_at_lem d (flat ds ++ post) i (same a (append_assoc d (flat ds) post)) (omega (arith, v.0))
bit-flat {buffer} words (d ∷ ds) at post (suc k) i v a h l =
    let next : at + suc k * words ≡ at + length d + k * words = omega (arith, suc-mul k words, v.0) in
    ap (λ (n : ℕ). bit_at buffer n i) next
    ∙ bit-flat words ds (at + length d) post k i v.1 (on d (flat ds ++ post) (same a (append_assoc d (flat ds) post))) (omega arith) l

module _ (ts : List Transition) where
  -- the distinct masks in their buffer
  pub length-distinct : length (flat (distinct_of ts)) ≡ length (distinct_of ts) * words_for (length ts)
  length-distinct =
      length-flat (words_for (length ts)) (distinct_of ts) (wide_distinct (words_for (length ts)) [] (matrix ts) tt (wide_masks ts (starts (cuts_of ts))))

  pub bit-distinct : (n k i : ℕ) → k < length (distinct_of ts) → i < length ts →
      bit_at (padded n (flat (distinct_of ts))) (k * words_for (length ts)) i ≡ mask_bit (get_or (distinct_of ts) k []) i
  bit-distinct n k i h l =
      let words = words_for (length ts) in
      let here : k * words ≡ 0 + k * words = omega arith in
      ap (λ (j : ℕ). bit_at (padded n (flat (distinct_of ts))) j i) here
      ∙ bit-flat words (distinct_of ts) 0 (zeros (n - length (flat (distinct_of ts)))) k i
      (wide_distinct words [] (matrix ts) tt (wide_masks ts (starts (cuts_of ts))))
      (padded-stands n (flat (distinct_of ts))) h (omega arith)

-- The mask of the segment that has a point

-- a segment's high is the number before the next cut
before-next : (p c n : ℕ) → suc c ≤ n → leb p (n - 1) ≡ ltb p n
before-next p c n h =
    le_cases n p
    (λ l. lt-leb p (n - 1) (omega arith) ∙ sym (le-ltb p n l))
    (λ l. le-leb p (n - 1) (omega arith) ∙ sym (lt-ltb p n l))

bit-zeros : (k i : ℕ) → i / 64 < k → mask_bit (zeros k) i ≡ 0
bit-zeros k i h = ap (λ (w : ℕ). w / 2 ^ (i % 64) % 2) (get_or-replicate k (i / 64) 0 0 h) ∙ ap (λ (w : ℕ). w % 2) (zero-div (2 ^ (i % 64)))

module _ (ts : List Transition) (s m : List ℕ) (p i : ℕ) (l : i < length ts) where
  abbrev words : ℕ
  words = words_for (length ts)

  bit_from_lem : (c : ℕ) (cs : List ℕ) (at mask : ℕ) (post behind : List ℕ) → Asc (suc c) cs → At s at (segments_from c cs ++ post) →
      At m mask (flat (masks_at ts (starts_from c cs)) ++ behind) →
      bit_from s m words p i (length (starts_from c cs)) at mask ≡ mask_bit (segment_mask_from ts p c cs) i
  unfolding bit_from segment_mask_from segments_from starts_from masks_at flat
  bit_from_lem c [] at mask post behind u a b = sym (bit-zeros words i (omega arith))
  bit_from_lem c (n ∷ ns) at mask post behind u a b =
      let low : get_or s at 0 ≡ c = at_head a in
      let high : get_or s (at + 1) 0 ≡ n - 1 = at_head (on (c ∷ []) ((n - 1) ∷ (segments_from n ns ++ post)) a) in
      let rest : List ℕ = flat (masks_at ts (starts_from n ns)) in
      let stands : At m mask (mask_of ts c ++ (rest ++ behind)) = same b (append_assoc (mask_of ts c) rest behind) in
      let one : bit_at m mask i ≡ mask_bit (mask_of ts c) i = bit_at_lem (mask_of ts c) (rest ++ behind) i stands (omega (arith, length_mask ts c)) in
      let more = bit_from_lem n ns (at + 2) (mask + words) post behind u.1 (on (c ∷ (n - 1) ∷ []) (segments_from n ns ++ post) a)
      (to (on (mask_of ts c) (rest ++ behind) stands) (ap (λ (k : ℕ). mask + k) (length_mask ts c))) in
      rw (low, high, before-next p c n u.0) (go (leb c p && ltb p n) (mask_of ts c) (segment_mask_from ts p n ns) one more)
    where
      go : (t : Bool) (a b : List ℕ) {x y : ℕ} → x ≡ mask_bit a i → y ≡ mask_bit b i → pick t x y ≡ mask_bit (pick t a b) i
      go true a b e f = e
      go false a b e f = f

  bit-over : (cs : List ℕ) (post behind : List ℕ) → Asc 0 cs → At s 0 (segments cs ++ post) → At m 0 (flat (masks_at ts (starts cs)) ++ behind) →
      bit_from s m words p i (length (starts cs)) 0 0 ≡ mask_bit (segment_mask_over ts p cs) i
  unfolding segments starts segment_mask_over bit_from
  bit-over [] post behind u a b = sym (bit-zeros words i (omega arith))
  bit-over (c ∷ cs) post behind u a b = bit_from_lem c cs 0 0 post behind u.1 a b

  -- .. says whether the transition holds the point
  pub bit-holds : AllInOrder ts → p < points → (post behind : List ℕ) → At s 0 (segments (cuts_of ts) ++ post) → At m 0 (flat (matrix ts) ++ behind) →
      point_bit s m (length (starts (cuts_of ts))) words p i ≡ bit (held_by ts i p)
  bit-holds o h post behind a b =
      bit-over (cuts_of ts) post behind (asc_cuts ts) a b ∙ ap (λ (x : List ℕ). mask_bit x i) (segment_mask_lem ts p o h) ∙ mask_exact ts p i l
