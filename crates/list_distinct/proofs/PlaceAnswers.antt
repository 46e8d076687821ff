-- The laws of the calls for distinct masks. w is the list's bytes, x the list. Assumes nothing.
use mathlib.Core.Path.{◌≡◌, refl, sym, ap, ap₂, subst, ◌∙◌}
use mathlib.Core.List.{List, [], ◌∷◌}
use mathlib.Core.Bool.{Bool, true, false, ◌||◌, false≢true}
use Prim.Native.Nat.{ℕ, ◌*◌, ◌-◌, ◌<◌, ◌≤◌}
use native.Mathlib.Omega.{arith}
use borrow.Author.Rules.{rules}
use borrow.Author.Tests.{lt-ltb, le-ltb, ltb-false}
use lib.Dec.{ltb}
use lib.ListN.{length, get_or, length-replicate, length-append}
use Rattle.std.specs.Prelude.{Result, Ok, Err}
use Rattle.refusal.specs.declared.Refusal.{Refusal}
use Rattle.refusal.specs.Said.{Said, ok, refusal_at, no_by, ROOM}
use Rattle.refusal.specs.Lists.{pick}
use Rattle.buffer.specs.Over.{lay, zeros, padded}
use Rattle.buffer.proofs.Overs.{lay-zeros}
use Rattle.list_transitions.specs.Transition.{Transition}
use Rattle.list_transitions.specs.Read.{Parsed, parsed, refused, parse, is_parsed, accepted}
use Rattle.list_segments.specs.Segments.{cuts_of, starts}
use Rattle.list_segments.specs.Answer.{parse_for, segments_in}
use Rattle.list_segments.proofs.Answers.{few_segments}
use Rattle.list_masks.specs.declared.Masks.{Masks}
use Rattle.list_masks.specs.Masks.{words_for, matrix, flat, distinct, distinct_of, places_in, places_of}
use Rattle.list_masks.specs.Answer.{said, parse_masks, parse_distinct, counted, masks_in, Matrix}
use Rattle.list_masks.proofs.Packs.{length_masks, Wide, wide_masks, length-flat, few_wide}
use Rattle.list_masks.proofs.Keeps.{wide_distinct}
use Rattle.list_masks.proofs.Answers.{few_from}
use Rattle.list_distinct.specs.declared.Places.{Places}
use Rattle.list_distinct.specs.Walk.{chunks, Gathered, Spaced, Zeroed, Cleared}
use Rattle.list_distinct.specs.Answer.{told, parse_places, found_in, placed_in, Placed}
use Rattle.list_distinct.proofs.Distincts.{chunks-flat, few_distinct, length-places}

-- The call for the distinct ones: what the answer for masks says of the list

record Each (s n : ℕ) (w : List ℕ) (c k : ℕ) (ms : List ℕ) : Type 0 where
  ts : List Transition
  is : parse_masks s n w ≡ parsed ts
  good : parse w ≡ parsed ts
  masks : c ≡ length (matrix ts)
  words : k ≡ words_for (length ts)
  leaves : ms ≡ padded n (flat (matrix ts))

-- what is accepted was not refused for want of room
not_short : (b : Bool) {x : Parsed} {ts : List Transition} → pick b (refused ROOM 0) x ≡ parsed ts → x ≡ parsed ts
not_short true e = let z : ◌≡◌ {A = ℕ} 0 1 = cc in absurd (omega arith)
not_short false e = e

all_room : (s n : ℕ) (w : List ℕ) (ts : List Transition) → parse_masks s n w ≡ parsed ts → parse w ≡ parsed ts
unfolding parse_masks parse_for
all_room s n w ts e = not_short (ltb s 4096) (not_short (ltb n 8192) e)

pub accepted_list : (s n d : ℕ) (w : List ℕ) (ts : List Transition) → parse_distinct s n d w ≡ parsed ts → parse w ≡ parsed ts
unfolding parse_distinct
accepted_list s n d w ts e = all_room s n w ts (not_short (ltb d 8192) e)

each : (s n : ℕ) (w : List ℕ) (m : Masks) (ms : List ℕ) (x : Parsed) → parse_masks s n w ≡ x → said (Ok m) ≡ counted matrix x →
    ms ≡ masks_in matrix n x → Each s n w m.masks m.words ms
unfolding counted masks_in
each s n w m ms (parsed ts) e f l = record { ts = ts; is = e; good = all_room s n w ts e; masks = cc; words = cc; leaves = l }
each s n w m ms (refused a b) e f l = let z : ◌≡◌ {A = ℕ} 0 1 = cc in absurd (omega arith)

-- no list has more than 256 transitions and 2,047 segments
few_of : (w : List ℕ) (ts : List Transition) → parse w ≡ parsed ts → (length ts ≤ 256) × (length (starts (cuts_of ts)) ≤ 2047)
unfolding accepted is_parsed
few_of w ts e =
    let is : accepted (parse w) ≡ ts = ap accepted e in
    (rw is at (few_from w 256 0 0 (ap is_parsed e)), rw is at (few_segments w))

no_masks : (s n d q : ℕ) (x : Parsed) (r : Refusal) (ns ms out ps : List ℕ) → said (Err r) ≡ counted matrix x → ns ≡ segments_in s x →
    ms ≡ masks_in matrix n x → out ≡ zeros d → ps ≡ zeros q → Placed (Err r) s ns n ms d out q ps x
unfolding counted masks_in found_in placed_in
no_masks s n d q (parsed ts) r ns ms out ps e a b o p = let z : ◌≡◌ {A = ℕ} 0 1 = cc in absurd (omega arith)
no_masks s n d q (refused k p) r ns ms out ps e a b o z = record { says = e; low_high = a; each = b; once = o; leaves = z }

-- The masks of the list stand: their distinct ones and places, into buffers that hold zeros

module _ (w a b d q : List ℕ) (z : Cleared d q) {got : Result Masks Refusal} {ns ms : List ℕ}
    (g : Matrix got (length a) ns (length b) ms (parse_masks (length a) (length b) w)) where
  module _ {m : Masks} (i : got ≡ Ok m) where
    abbrev c : ℕ
    c = m.masks

    abbrev k : ℕ
    k = m.words

    of : Each (length a) (length b) w c k ms
    of = each (length a) (length b) w m ms (parse_masks (length a) (length b) w) refl (ap said (sym i) ∙ g.says) g.leaves

    abbrev us : List Transition
    us = of.ts

    rows : Wide k (matrix us)
    rows = subst (λ (j : ℕ). Wide j (matrix us)) (sym of.words) (wide_masks us (starts (cuts_of us)))

    four : k ≤ 4
    four = omega (arith, of.words, (few_of w us of.good).0)

    many : c ≤ 2047
    many = omega (arith, of.masks, length_masks us (starts (cuts_of us)), (few_of w us of.good).1)

    all_words : length (flat (matrix us)) ≡ c * k
    all_words = length-flat k (matrix us) rows ∙ ap (λ (j : ℕ). j * k) (sym of.masks)

    pub distinct-spaced : Spaced ms c k d q
    unfolding padded
    distinct-spaced =
        record {
          some = omega (arith, all_words, ap length of.leaves, length-append (flat (matrix us)) (zeros (length b - length (flat (matrix us)))));
          room = omega (arith, all_words, few_wide k (matrix us) four rows, of.masks, many, z.room);
          each = omega (arith, many, z.each);
          few = many;
        }

    front : chunks c k ms ≡ matrix us
    unfolding padded
    front =
        ap₂ (λ (j : ℕ) (t : List ℕ). chunks j k t) of.masks of.leaves
        ∙ chunks-flat k (matrix us) (zeros (length b - length (flat (matrix us)))) rows

    pub distinct-found : {r : ℕ} {out ps : List ℕ} → Gathered (chunks c k ms) d r out q ps →
        Placed (Ok (record { segments = c; masks = r; words = k })) (length a) ns (length b) ms (length d) out (length q) ps (parse_masks (length a) (length b) w)
    unfolding found_in masks_in placed_in
    distinct-found {r} {out} {ps} s =
        let ds : List (List ℕ) = distinct_of us in
        let is : distinct [] (chunks c k ms) ≡ ds = ap (distinct []) front in
        let fits : length (flat ds) ≤ length d =
        omega (arith, few_wide k ds four (wide_distinct k [] (matrix us) tt rows), few_distinct [] (matrix us), of.masks, many, z.room) in
        let left : out ≡ padded (length d) (flat ds) =
        s.masks.is ∙ ap₂ (λ (l : List (List ℕ)) (o : List ℕ). lay 0 (flat l) o) is z.once ∙ lay-zeros (length d) (flat ds) fits in
        let fit : length (places_of us) ≤ length q = omega (arith, length-places ds (matrix us), of.masks, many, z.each) in
        let stands : ps ≡ padded (length q) (places_of us) =
        s.places ∙ ap₂ (λ (l : List (List ℕ)) (o : List ℕ). lay 0 (places_in (distinct [] l) l) o) front z.leaves
        ∙ lay-zeros (length q) (places_of us) fit in
        let size : c ≡ length (starts (cuts_of us)) = of.masks ∙ length_masks us (starts (cuts_of us)) in
        let says : told (Ok (record { segments = c; masks = r; words = k })) ≡ found_in (parsed us) =
        ap₂ {C = Said} (λ x l. ok (x ∷ l)) size (ap₂ {C = List ℕ} (λ x y. x ∷ y ∷ []) (s.masks.count ∙ ap length is) of.words) in
        rw of.is
        (record { says = says; low_high = g.low_high ∙ ap (segments_in (length a)) of.is; each = of.leaves; once = left; leaves = stands })

  pub distinct-refused : {r : Refusal} → got ≡ Err r →
      Placed (Err r) (length a) ns (length b) ms (length d) d (length q) q (parse_masks (length a) (length b) w)
  distinct-refused {r} i =
      no_masks (length a) (length b) (length d) (length q) (parse_masks (length a) (length b) w) r ns ms d q (ap said (sym i) ∙ g.says)
      g.low_high g.leaves z.once z.leaves

pub ruleset filling = (rules, distinct-spaced, distinct-found, distinct-refused)

-- Both rooms are asked for at once

pub short_first : (out places : ℕ) → out < 8192 → true ≡ (ltb out 8192 || ltb places 2048)
short_first out places h = rw (lt-ltb out 8192 h)

pub short_second : (out places : ℕ) {r : Bool} → 8192 ≤ out → r ≡ ltb places 2048 → r ≡ (ltb out 8192 || ltb places 2048)
short_second out places h e = rw (le-ltb out 8192 h) e

pub ruleset rooming = (rules, short_first, short_second)

room-true : (x y : Bool) (p : Parsed) → (x || y) ≡ true → pick y (refused ROOM 0) (pick x (refused ROOM 0) p) ≡ refused ROOM 0
room-true true true p e = refl
room-true true false p e = refl
room-true false true p e = refl
room-true false false p e = absurd (false≢true e)

room-false : (x y : Bool) (p : Parsed) → (x || y) ≡ false → pick y (refused ROOM 0) (pick x (refused ROOM 0) p) ≡ p
room-false true y p e = absurd (false≢true (sym e))
room-false false true p e = absurd (false≢true (sym e))
room-false false false p e = refl

none_of_both : (x y : Bool) → (x || y) ≡ false → (x ≡ false) × (y ≡ false)
none_of_both true y e = absurd (false≢true (sym e))
none_of_both false y e = (refl, e)

-- the buffers for distinct masks and places were cleared first
module _ (e f : List ℕ) {d q : List ℕ} (z : Zeroed e d f q) where
  long : length d ≡ length e
  long = ap length z.words ∙ length-replicate (length e) 0

  as_long : length q ≡ length f
  as_long = ap length z.numbers ∙ length-replicate (length f) 0

  module _ {t : Bool} (u : t ≡ (ltb (length d) 8192 || ltb (length q) 2048)) where
    test : (ltb (length e) 8192 || ltb (length f) 2048) ≡ t
    test = ap₂ (λ (x y : ℕ). ltb x 8192 || ltb y 2048) (sym long) (sym as_long) ∙ sym u

    pub all_cleared : t ≡ false → Cleared d q
    all_cleared h =
        let n = none_of_both (ltb (length d) 8192) (ltb (length q) 2048) (sym u ∙ h) in
        record {
          once = z.words ∙ ap zeros (sym long);
          leaves = z.numbers ∙ ap zeros (sym as_long);
          room = ltb-false (length d) 8192 n.0;
          each = ltb-false (length q) 2048 n.1;
        }

    module _ (w a b : List ℕ) where
      pub none-room : {ns ms : List ℕ} → t ≡ true → Zeroed b ms a ns →
          Placed (Err (refusal_at ROOM 0)) (length a) ns (length b) ms (length e) d (length f) q
          (parse_places (length a) (length b) (length e) (length f) w)
      unfolding parse_places parse_distinct found_in segments_in masks_in placed_in
      none-room h s =
          rw (room-true (ltb (length e) 8192) (ltb (length f) 2048) (parse_masks (length a) (length b) w) (test ∙ h))
          (record { says = refl; low_high = s.numbers; each = s.words; once = z.words; leaves = z.numbers })

      pub placed : {got : Result Places Refusal} {ns ms out ps : List ℕ} → t ≡ false →
          Placed got (length a) ns (length b) ms (length d) out (length q) ps (parse_masks (length a) (length b) w) →
          Placed got (length a) ns (length b) ms (length e) out (length f) ps (parse_places (length a) (length b) (length e) (length f) w)
      unfolding parse_places parse_distinct
      placed h g =
          rw (room-false (ltb (length e) 8192) (ltb (length f) 2048) (parse_masks (length a) (length b) w) (test ∙ h), ← long, ← as_long) g

pub ruleset placing = (rules, length-replicate, none-room, all_cleared, placed)

-- A buffer of 2,048 places is long enough

pub roomy_places : (s n d : ℕ) (w : List ℕ) → parse_places s n d 2048 w ≡ parse_distinct s n d w
unfolding parse_places
roomy_places s n d w = refl

-- `told` takes no two answers to one: what it says gives the answer back

abbrev back : Said → Result Places Refusal
back (ok l) = Ok (record { segments = get_or l 0 0; masks = get_or l 1 0; words = get_or l 2 0 })
back (no_by r) = Err r

back-told : (x : Result Places Refusal) → back (told x) ≡ x
back-told (Ok f) = refl
back-told (Err r) = refl

pub told_one : (x y : Result Places Refusal) → told x ≡ told y → x ≡ y
told_one x y e = sym (back-told x) ∙ ap back e ∙ back-told y
