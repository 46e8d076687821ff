-- The laws of the call for a mask of each segment. w is the list's bytes, x the list. Assumes nothing.
use mathlib.Core.Path.{◌≡◌, refl, sym, ap, ap₂, ◌∙◌}
use mathlib.Core.List.{List, [], ◌∷◌, ◌++◌}
use mathlib.Core.Bool.{true}
use Prim.Native.Nat.{ℕ, zero, suc, ◌+◌, ◌*◌, ◌-◌, ◌/◌, ◌<◌, ◌≤◌}
use native.Mathlib.Nat.{mul-le-mul_left}
use native.Mathlib.Omega.{arith}
use borrow.Author.Rules.{rules}
use borrow.Author.Tests.{lt-ltb, le-ltb}
use mir.Val.{Fits}
use mir.Syntax.{w64}
use lib.ListN.{length, get_or, length-replicate}
use Rattle.std.specs.Prelude.{Result, Ok, Err}
use Rattle.refusal.specs.declared.Refusal.{Refusal}
use Rattle.refusal.specs.Said.{Said, ok, refusal_at, no_by, ROOM}
use Rattle.buffer.specs.Over.{lay, Put, zeros, padded}
use Rattle.buffer.proofs.Overs.{lay-zeros}
use Rattle.list_transitions.specs.declared.Transitions.{Transitions}
use Rattle.list_transitions.specs.Transition.{Transition}
use Rattle.list_transitions.specs.Read.{Parsed, parsed, refused, parse_from, parse, is_parsed, accepted}
use Rattle.list_transitions.specs.Read as list
use Rattle.list_transitions.specs.Walk.{trans_from, Fit}
use Rattle.list_transitions.proofs.Order.{le_cases}
use Rattle.list_transitions.proofs.Accepted.{Listed, listed, ended, walk}
use Rattle.list_segments.specs.Segments.{cuts_of, starts, starts_from, segments, segments_from}
use Rattle.list_segments.specs.Answer.{parse_for, segments_in}
use Rattle.list_segments.specs.Answer as seg
use Rattle.list_segments.proofs.Answers.{length-padded, length-starts, few_segments}
use Rattle.list_masks.specs.declared.Masks.{Masks}
use Rattle.list_masks.specs.Masks.{words_for, masks_at, matrix, flat}
use Rattle.list_masks.specs.Walk.{lows}
use Rattle.list_masks.specs.Answer.{said, parse_masks, counted, masks_in, Matrix, Ready}
use Rattle.list_masks.proofs.Packs.{length_masks, length-matrix}

-- How many transitions a list has: no more than 256

pub count_read : (x : Parsed) {got : Result Transitions Refusal} {t : Transitions} → list.said got ≡ list.counted x → got ≡ Ok t → t.count ≡ length (accepted x)
unfolding list.counted accepted
count_read (parsed ts) {got} {t} g e = let h : list.said (Ok t) ≡ list.counted (parsed ts) = ap list.said (sym e) ∙ g in cc
count_read (refused n p) g e = let z : ◌≡◌ {A = ℕ} 0 1 = cc in absurd (omega arith)

pub count-refused : (x : Parsed) {got : Result Transitions Refusal} {r : Refusal} → list.said got ≡ list.counted x → got ≡ Err r → 0 ≡ length (accepted x)
unfolding list.counted accepted
count-refused (parsed ts) g e = let z : ◌≡◌ {A = ℕ} 0 1 = cc in absurd (omega arith)
count-refused (refused n p) g e = refl

pub ruleset counts = (rules, count_read, count-refused)

pub few_from : (w : List ℕ) (left at used : ℕ) → is_parsed (parse_from w left at used) ≡ true → length (accepted (parse_from w left at used)) ≤ left
few_from w =
    walk (λ left at used. length (accepted (parse_from w left at used)) ≤ left) w
    (λ left at used l. rw (ended w left at used l) (omega arith))
    (λ left at used t r.
    let one : suc left - 1 ≡ left = omega arith in
    let is = rw one at t.is in
    rw is (omega arith))

-- The segments that stand: at every second number a start

lows_on : (x y : ℕ) (ns : List ℕ) (k at : ℕ) → lows (x ∷ y ∷ ns) k (at + 2) ≡ lows ns k at
unfolding lows
lows_on x y ns zero at = refl
lows_on x y ns (suc k) at =
    let e : at + 2 ≡ suc (suc at) = omega arith in
    ap₂ {C = List ℕ} (λ a l. a ∷ l) (ap (λ (j : ℕ). get_or (x ∷ y ∷ ns) j 0) e) (lows_on x y ns k (at + 2))

lows_from : (c : ℕ) (cs zs : List ℕ) → lows (segments_from c cs ++ zs) (length (starts_from c cs)) 0 ≡ starts_from c cs
unfolding lows segments_from starts_from
lows_from c [] zs = refl
lows_from c (n ∷ ns) zs = ap (λ (l : List ℕ). c ∷ l) (lows_on c (n - 1) (segments_from n ns ++ zs) (length (starts_from n ns)) 0 ∙ lows_from n ns zs)

lows-starts : (cs zs : List ℕ) → lows (segments cs ++ zs) (length (starts cs)) 0 ≡ starts cs
unfolding lows segments starts
lows-starts [] zs = refl
lows-starts (c ∷ cs) zs = lows_from c cs zs

lows_in : (n : ℕ) (x : Parsed) → is_parsed x ≡ true → lows (segments_in n x) (length (starts (cuts_of (accepted x)))) 0 ≡ starts (cuts_of (accepted x))
unfolding is_parsed accepted segments_in padded
lows_in n (parsed ts) h = lows-starts (cuts_of ts) (zeros (n - length (segments (cuts_of ts))))
lows_in n (refused k p) h = let z : ◌≡◌ {A = ℕ} 0 1 = cc in absurd (omega arith)

-- The masks of an accepted list, written into a buffer of zeros

is_matrix : (s n c k : ℕ) (x : Parsed) (ns out : List ℕ) → is_parsed x ≡ true → c ≡ length (starts (cuts_of (accepted x))) →
    k ≡ length (accepted x) →
    ns ≡ segments_in s x → out ≡ padded n (flat (matrix (accepted x))) → Matrix (Ok (record { masks = c; words = (k + 63) / 64 })) s ns n out x
unfolding is_parsed accepted counted masks_in
is_matrix s n c k (parsed ts) ns out h a b l o =
    record {
      says = ap₂ {C = Said} (λ x y. ok (x ∷ y ∷ [])) (a ∙ sym (length_masks ts (starts (cuts_of ts)))) (ap words_for b);
      low_high = l;
      leaves = o;
    }
is_matrix s n c k (refused x p) ns out h a b l o = let z : ◌≡◌ {A = ℕ} 0 1 = cc in absurd (omega arith)

module _ (w ns : List ℕ) (count : ℕ) (d : List ℕ) (r : Ready w ns count d) {n : ℕ} (e : n ≡ length (accepted (parse w))) where
  abbrev ts : List Transition
  ts = accepted (parse w)

  all : Listed w 0 ts
  all = listed w r.good

  few : length ts ≤ 256
  few = few_from w 256 0 0 r.good

  of_list : trans_from w n 0 ≡ ts
  of_list = ap (λ (k : ℕ). trans_from w k 0) e ∙ sym all.is

  of_starts : lows ns count 0 ≡ starts (cuts_of ts)
  of_starts = ap₂ (λ (a : List ℕ) (k : ℕ). lows a k 0) r.points r.each ∙ lows_in (length ns) (parse w) r.good

  written : flat (masks_at (trans_from w n 0) (lows ns count 0)) ≡ flat (matrix ts)
  written = ap₂ (λ (a : List Transition) (ps : List ℕ). flat (masks_at a ps)) of_list of_starts

  fits : length (flat (matrix ts)) ≤ length d
  fits =
      let four : words_for (length ts) ≤ 4 = omega (arith, few) in
      omega (arith, length-matrix ts (starts (cuts_of ts)), mul-le-mul_left (length (starts (cuts_of ts))) four, few_segments w, r.room)

  pub fill_sound : Fit w n 0
  fill_sound = rw e all.fit

  pub fill_empty : d ≡ zeros (length d)
  fill_empty = r.empty

  pub fill_points : 2 * count ≤ length ns
  fill_points = omega (arith, r.each, few_segments w, r.long)

  pub fill_room : 0 + length (flat (masks_at (trans_from w n 0) (lows ns count 0))) ≤ length d
  fill_room = omega (arith, ap length written, fits)

  pub fill_fits : Fits w64 (n + 63)
  fill_fits = omega (arith, few)

  pub fill_done : {k : ℕ} {out : List ℕ} → Put (flat (masks_at (trans_from w n 0) (lows ns count 0))) 0 d k out →
      Matrix (Ok (record { masks = count; words = (n + 63) / 64 })) (length ns) ns (length d) out (parse w)
  fill_done p =
      is_matrix (length ns) (length d) count n (parse w) ns _ r.good r.each e r.points
      (p.is ∙ ap₂ (λ (a b : List ℕ). lay 0 a b) written r.empty ∙ lay-zeros (length d) (flat (matrix ts)) fits)

pub ruleset filling = (rules, fill_sound, fill_empty, fill_points, fill_room, fill_fits, fill_done)

-- What the answer for segments says of the list

record Some (n : ℕ) (w : List ℕ) (k : ℕ) : Type 0 where
  good : is_parsed (parse w) ≡ true
  size : k ≡ length (starts (cuts_of (accepted (parse w))))
  room : 4096 ≤ n
  is : parse_for n w ≡ parse w

pub roomy : (n : ℕ) (w : List ℕ) → 4096 ≤ n → parse_for n w ≡ parse w
unfolding parse_for
roomy n w h = rw (le-ltb n 4096 h)

pub short : (n : ℕ) (w : List ℕ) → n < 4096 → parse_for n w ≡ refused ROOM 0
unfolding parse_for
short n w h = rw (lt-ltb n 4096 h)

some : (x : Parsed) {k : ℕ} → seg.said (Ok k) ≡ seg.counted x → (is_parsed x ≡ true) × (k ≡ length (starts (cuts_of (accepted x))))
unfolding seg.counted is_parsed accepted
some (parsed ts) e = (refl, cc)
some (refused n p) e = let z : ◌≡◌ {A = ℕ} 0 1 = cc in absurd (omega arith)

some_of : (n : ℕ) (w : List ℕ) {k : ℕ} → seg.said (Ok k) ≡ seg.counted (parse_for n w) → Some n w k
unfolding seg.counted
some_of n w {k} e =
    le_cases 4096 n
    (λ h. let s = some (parse w) (e ∙ ap seg.counted (roomy n w h)) in record { good = s.0; size = s.1; room = h; is = roomy n w h })
    (λ h. let f = e ∙ ap seg.counted (short n w h) in let z : ◌≡◌ {A = ℕ} 0 1 = cc in absurd (omega arith))

none_of : (s n : ℕ) (x : Parsed) (r : Refusal) (ns d : List ℕ) → seg.said (Err r) ≡ seg.counted x → ns ≡ segments_in s x →
    d ≡ zeros n →
    Matrix (Err r) s ns n d x
unfolding seg.counted counted masks_in
none_of s n (parsed ts) r ns d e l z = let f : ◌≡◌ {A = ℕ} 0 1 = cc in absurd (omega arith)
none_of s n (refused k p) r ns d e l z = record { says = e; low_high = l; leaves = z }

length_in : (n : ℕ) (w : List ℕ) → 4096 ≤ n → is_parsed (parse w) ≡ true → length (segments_in n (parse w)) ≡ n
unfolding is_parsed accepted segments_in
length_in n w h g = go (parse w) g (omega (arith, length-starts (cuts_of (accepted (parse w))), few_segments w))
  where
    go : (x : Parsed) → is_parsed x ≡ true → length (segments (cuts_of (accepted x))) ≤ n → length (segments_in n x) ≡ n
    go (parsed ts) g l = length-padded n (segments (cuts_of ts)) l
    go (refused k p) g l = length-replicate n 0

-- The call for a mask of each segment: the buffer for masks was cleared first

module _ (w a b : List ℕ) {d : List ℕ} (z : d ≡ zeros (length b)) where
  size : length d ≡ length b
  size = ap length z ∙ length-replicate (length b) 0

  pub no_room : {ns : List ℕ} → length d < 8192 → ns ≡ zeros (length a) →
      Matrix (Err (refusal_at ROOM 0)) (length a) ns (length b) d (parse_masks (length a) (length b) w)
  unfolding parse_masks counted segments_in masks_in
  no_room l s = let h : length b < 8192 = omega (arith, size) in rw (lt-ltb (length b) 8192 h) (record { says = refl; low_high = s; leaves = z })

  module _ (l : 8192 ≤ length d) {got : Result ℕ Refusal} {ns : List ℕ} (h : seg.Writes got (length a) ns (parse_for (length a) w)) where
    asked : parse_masks (length a) (length b) w ≡ parse_for (length a) w
    unfolding parse_masks
    asked = let g : 8192 ≤ length b = omega (arith, size) in rw (le-ltb (length b) 8192 g)

    module _ {k : ℕ} (e : got ≡ Ok k) where
      is : Some (length a) w k
      is = some_of (length a) w (ap seg.said (sym e) ∙ h.says)

      same : length ns ≡ length a
      same = ap length (h.leaves ∙ ap (segments_in (length a)) is.is) ∙ length_in (length a) w is.room is.good

      pub ready : Ready w ns k d
      ready =
          record {
            good = is.good;
            points = h.leaves ∙ ap₂ (λ (n : ℕ) (x : Parsed). segments_in n x) (sym same) is.is;
            long = omega (arith, same, is.room);
            each = is.size;
            empty = z ∙ ap zeros (sym size);
            room = l;
          }

      pub matrix-found : {r : Result Masks Refusal} {out : List ℕ} → Matrix r (length ns) ns (length d) out (parse w) →
          Matrix r (length a) ns (length b) out (parse_masks (length a) (length b) w)
      matrix-found m = rw (asked, is.is, ← same, ← size) m

    pub matrix-refused : {r : Refusal} → got ≡ Err r → Matrix (Err r) (length a) ns (length b) d (parse_masks (length a) (length b) w)
    matrix-refused {r} e = rw asked (none_of (length a) (length b) (parse_for (length a) w) r ns d (ap seg.said (sym e) ∙ h.says) h.leaves z)

pub ruleset answering = (rules, length-replicate, no_room, ready, matrix-found, matrix-refused)

-- `said` takes no two answers to one: what it says gives the answer back

abbrev back : Said → Result Masks Refusal
back (ok l) = Ok (record { masks = get_or l 0 0; words = get_or l 1 0 })
back (no_by r) = Err r

back-said : (x : Result Masks Refusal) → back (said x) ≡ x
back-said (Ok m) = refl
back-said (Err r) = refl

pub said_one : (x y : Result Masks Refusal) → said x ≡ said y → x ≡ y
said_one x y e = sym (back-said x) ∙ ap back e ∙ back-said y
