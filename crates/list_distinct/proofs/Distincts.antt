-- The laws of the loops that find a mask among others and gather the distinct ones. ns and known are buffers, ds the distinct masks that
-- stand, m a mask of so many words. Assumes nothing.
use mathlib.Core.Path.{◌≡◌, refl, sym, ap, ap₂, subst, ◌∙◌}
use mathlib.Core.List.{List, [], ◌∷◌, ◌++◌, append_assoc, append-nil}
use mathlib.Core.Bool.{Bool, true, false, ◌&&◌}
use Prim.Native.Nat.{ℕ, zero, suc, ◌+◌, ◌*◌, ◌-◌, ◌<◌, ◌≤◌}
use native.Mathlib.Nat.{suc-mul, mul-le-mul_right, zero-add}
use native.Mathlib.Omega.{arith}
use borrow.Author.Rules.{rules}
use borrow.Author.Tests.{lt-ltb, le-ltb, eq-eqb, ne_eqb}
use lib.Dec.{eqb}
use borrow.Rule.Slice.PartMut.{mid_of, put_mid}
use lib.ListN.{length, get_or, take, drop, set, length-append, length-drop, drop_of_length-le}
use lib.Seq.{take-add, take_at, drop_at, drop-drop, drop-cons, length-take-le}
use Rattle.refusal.specs.Lists.{pick, same_list, first_equal}
use Rattle.refusal.specs.Fixed.{NONE}
use Rattle.buffer.specs.Over.{over, lay, Put}
use Rattle.buffer.proofs.Overs.{over-front, copied, lay-length, lay-none, lay-lay}
use Rattle.buffer.proofs.Going.{Going, going_start, going_place, going_put, going_done}
use Rattle.std.specs.Prelude.{Option, position}
use Rattle.std.specs.Option.{unwrap_or}
use Rattle.list_distinct.proofs.Searches.{word_index, one_number}
use Rattle.list_transitions.proofs.Order.{le_cases}
use Rattle.list_masks.specs.Masks.{flat, is_zero, index, add_new, distinct, place_of, places_in}
use Rattle.list_distinct.specs.Walk.{chunks, Entered, Gathered, Spaced}
use Rattle.list_masks.proofs.Packs.{Wide, length-flat}
use Rattle.list_masks.proofs.Keeps.{add_cases, index-last, place_some, place_none, place_keep, wide_add}

-- Masks one behind another

pub length-chunks : (k words : ℕ) (ns : List ℕ) → length (chunks k words ns) ≡ k
unfolding chunks
length-chunks zero words ns = refl
length-chunks (suc k) words ns = ap suc (length-chunks k words (drop words ns))

flat-chunks : (k words : ℕ) (ns : List ℕ) → flat (chunks k words ns) ≡ take (k * words) ns
unfolding chunks flat
flat-chunks zero words ns = let z : 0 * words ≡ 0 = omega arith in rw z
flat-chunks (suc k) words ns =
    let e : suc k * words ≡ words + k * words = omega (arith, suc-mul k words) in
    ap (λ (l : List ℕ). take words ns ++ l) (flat-chunks k words (drop words ns)) ∙ sym (take-add words (k * words) ns)
    ∙ ap (λ (j : ℕ). take j ns) (sym e)

flat_append : (ds es : List (List ℕ)) → flat (ds ++ es) ≡ flat ds ++ flat es
unfolding flat
flat_append [] es = refl
flat_append (d ∷ ds) es = ap (λ (l : List ℕ). d ++ l) (flat_append ds es) ∙ sym (append_assoc d (flat ds) (flat es))

pub chunks-flat : (words : ℕ) (ds : List (List ℕ)) (zs : List ℕ) → Wide words ds → chunks (length ds) words (flat ds ++ zs) ≡ ds
unfolding chunks flat
chunks-flat words [] zs a = refl
chunks-flat words (d ∷ ds) zs a =
    let e : (d ++ flat ds) ++ zs ≡ d ++ (flat ds ++ zs) = append_assoc d (flat ds) zs in
    rw (e, take_at d (flat ds ++ zs) words a.0, drop_at d (flat ds ++ zs) words a.0)
    (ap (λ (l : List (List ℕ)). d ∷ l) (chunks-flat words ds zs a.1))

-- The search for a mask

pub find_start : (known m : List ℕ) (d words : ℕ) → 0 + index (chunks d words (drop 0 known)) m ≡ index (chunks d words known) m
find_start known m d words = zero-add (index (chunks d words known) m)

module _ (known m : List ℕ) (left words p i : ℕ) {all : ℕ} (e : i + index (chunks left words (drop p known)) m ≡ all) where
  module _ {b : Bool} (n : 0 < left) (f : b ≡ same_list (take words (drop p known)) m) where
    open' : index (chunks left words (drop p known)) m ≡ pick b 0 (suc (index (chunks (left - 1) words (drop (p + words) known)) m))
    unfolding chunks first_equal
    open' =
        let more : left ≡ suc (left - 1) = omega arith in
        ap (λ (k : ℕ). index (chunks k words (drop p known)) m) more ∙ (rw (← f, drop-drop words p known))

    pub find_hit : b ≡ true → i ≡ all
    find_hit h = omega (arith, e, open' ∙ ap (λ (t : Bool). pick t 0 (suc (index (chunks (left - 1) words (drop (p + words) known)) m))) h)

    pub find_turn : b ≡ false → i + 1 + index (chunks (left - 1) words (drop (p + words) known)) m ≡ all
    find_turn h = omega (arith, e, open' ∙ ap (λ (t : Bool). pick t 0 (suc (index (chunks (left - 1) words (drop (p + words) known)) m))) h)

  pub find_done : left ≤ 0 → i ≡ all
  unfolding chunks first_equal
  find_done n = let z : left ≡ 0 = omega arith in let f = rw z at e in omega arith

module _ (p left words : ℕ) {size : ℕ} (n : 0 < left) (h : p + left * words ≤ size) where
  pub one_more_lem : p + words + (left - 1) * words ≤ size
  one_more_lem =
      let more : left ≡ suc (left - 1) = omega arith in
      omega (arith, ap (λ (k : ℕ). k * words) more, suc-mul (left - 1) words)

  pub one_there : p + words ≤ size
  one_there = omega (arith, one_more_lem)

-- Two masks that are compared word by word: those from i on are the same where all are

module _ (xs ys : List ℕ) (l : length xs ≡ length ys) (i : ℕ) {all : Bool} (e : same_list (drop i xs) (drop i ys) ≡ all) where
  rest_of : (zs : List ℕ) → i < length zs → drop i zs ≡ get_or zs i 0 ∷ drop (i + 1) zs
  rest_of zs h = let one : suc i ≡ i + 1 = omega arith in drop-cons zs i 0 h ∙ ap (λ (k : ℕ). get_or zs i 0 ∷ drop k zs) one

  pub same_not : i < length xs → (get_or xs i 0 ≡ get_or ys i 0 → ⊥) → false ≡ all
  unfolding same_list
  same_not h d = rw (rest_of xs h, rest_of ys (omega arith), ne_eqb (get_or xs i 0) (get_or ys i 0) d) at e

  pub same_turn : i < length xs → get_or xs i 0 ≡ get_or ys i 0 → same_list (drop (i + 1) xs) (drop (i + 1) ys) ≡ all
  unfolding same_list
  same_turn h d = rw (rest_of xs h, rest_of ys (omega arith), eq-eqb (get_or xs i 0) (get_or ys i 0) d) at e

  pub same_done : length xs ≤ i → true ≡ all
  unfolding same_list
  same_done h =
      let a : drop i xs ≡ [] = drop_of_length-le xs h in
      let b : drop i ys ≡ [] = drop_of_length-le ys (omega arith) in
      rw (a, b) at e

pub ruleset comparing = (rules, same_not, same_turn, same_done)

pub one_more_words : (i words : ℕ) → (i + 1) * words ≡ i * words + words
one_more_words i words = let e : i + 1 ≡ suc i = omega arith in ap (λ (k : ℕ). k * words) e ∙ omega (arith, suc-mul i words)

module _ (known m : List ℕ) (d : ℕ) where
  abbrev size : ℕ
  size = length m

  -- one word: by the library's search
  pub find_one : d * size ≤ length known → {r x : ℕ} {o : Option ℕ} → size ≡ 1 → x ≡ get_or m 0 0 → o ≡ position (λ w. eqb w x) (take d known) →
      r ≡ unwrap_or o d → r ≡ index (chunks d size known) m
  find_one h {r} {x} l e f g =
      let one : m ≡ x ∷ [] = one_number m l ∙ ap (λ (y : ℕ). y ∷ []) (sym e) in
      let some : d ≤ length known = omega (arith, ap (λ (n : ℕ). d * n) l, h) in
      let at : unwrap_or (position (λ w. eqb w x) (take d known)) d ≡ index (chunks d size known) m = rw (l, one) (word_index x d known some) in
      g ∙ ap (λ (o : Option ℕ). unwrap_or o d) f ∙ at

  pub loop_start : 0 + index (chunks (d - 0) size (drop (0 * size) known)) m ≡ index (chunks d size known) m
  loop_start =
      let e : d - 0 ≡ d = omega arith in
      let z : 0 * size ≡ 0 = omega arith in
      rw (e, z) (find_start known m d size)

  module _ (i : ℕ) {all : ℕ} (e : i + index (chunks (d - i) size (drop (i * size) known)) m ≡ all) where
    module _ (n : i < d) {b : Bool} (f : b ≡ same_list (take (i * size + size - i * size) (drop (i * size) known)) m) where
      is_same : b ≡ same_list (take size (drop (i * size) known)) m
      is_same = let k : i * size + size - i * size ≡ size = omega arith in rw k at f

      pub loop_hit : b ≡ true → i ≡ all
      loop_hit h = find_hit known m (d - i) size (i * size) i e (omega arith) is_same h

      pub loop_turn : b ≡ false → i + 1 + index (chunks (d - (i + 1)) size (drop ((i + 1) * size) known)) m ≡ all
      loop_turn h =
          let k : d - (i + 1) ≡ d - i - 1 = omega arith in
          rw (k, one_more_words i size) (find_turn known m (d - i) size (i * size) i e (omega arith) is_same h)

    pub loop_done : i ≤ d → d ≤ i → d ≡ all
    loop_done l h = omega (arith, find_done known m (d - i) size (i * size) i e (omega arith))

-- A mask is put behind the others, or not

over-take : (k : ℕ) (l : List ℕ) → over (take k l) l ≡ l
unfolding over
over-take zero l = refl
over-take (suc k) [] = refl
over-take (suc k) (x ∷ l) = ap (λ (t : List ℕ). x ∷ t) (over-take k l)

module _ (d words : ℕ) (out m : List ℕ) (h : d * words + words ≤ length out) where
  abbrev ds : List (List ℕ)
  ds = chunks d words out

  pub add_room : d * words ≤ length out
  add_room = omega arith

  stays : lay 0 (flat ds) out ≡ out
  unfolding lay
  stays = ap (λ (l : List ℕ). over l out) (flat-chunks d words out) ∙ over-take (d * words) out

  same_entered : {r : ℕ} → add_new ds m ≡ ds → r ≡ place_of ds m → Entered ds m out r out
  same_entered {r} e p =
      let g : Entered ds m out r (lay 0 (flat (add_new ds m)) out) = record { place = p ∙ ap (λ (l : List (List ℕ)). place_of l m) (sym e); is = refl } in
      subst (Entered ds m out r) (ap (λ (l : List (List ℕ)). lay 0 (flat l) out) e ∙ stays) g

  pub add_empty : {b : Bool} → b ≡ is_zero m → b ≡ true → Entered ds m out NONE out
  unfolding add_new place_of
  add_empty e t = same_entered (rw (← e, t)) (rw (← e, t))

  module _ {b : Bool} {i : ℕ} (e : b ≡ is_zero m) (f : b ≡ false) (g : i ≡ index ds m) where
    pub add_there : i < d → Entered ds m out i out
    unfolding add_new place_of
    add_there l =
        let lt : index ds m < length ds = omega (arith, length-chunks d words out) in
        same_entered (rw (← e, f, lt-ltb (index ds m) (length ds) lt)) (rw (← e, f) g)

    pub add_new_lem : {k : ℕ} {new : List ℕ} → d ≤ i → Put m (d * words) out k new → Entered ds m out d new
    unfolding add_new flat place_of
    add_new_lem l p =
        let le : length ds ≤ index ds m = omega (arith, length-chunks d words out) in
        let is : add_new ds m ≡ ds ++ (m ∷ []) = rw (← e, f, le-ltb (index ds m) (length ds) le) in
        let all : flat (ds ++ (m ∷ [])) ≡ flat ds ++ m = flat_append ds (m ∷ []) ∙ ap (λ (t : List ℕ). flat ds ++ t) (append-nil m) in
        let size : length (flat ds) ≡ d * words = ap length (flat-chunks d words out) ∙ length-take-le (d * words) out add_room in
        let fits : 0 + length (flat ds) ≤ length out = omega (arith, size, add_room) in
        let at : d * words ≡ 0 + length (flat ds) = omega (arith, size) in
        let place : d ≡ place_of (ds ++ (m ∷ [])) m = rw (← e, f) (sym (length-chunks d words out) ∙ sym (index-last ds m le)) in
        record {
          place = place ∙ ap (λ (l : List (List ℕ)). place_of l m) (sym is);
          is =
              p.is
              ∙ ap₂ (λ (k : ℕ) (o : List ℕ). lay k m o) at (sym stays)
              ∙ lay-lay 0 (flat ds) m out fits
              ∙ ap (λ (t : List ℕ). lay 0 t out) (sym all ∙ ap flat (sym is));
        }

-- a slice copied over a part
pub put_slice : (m out : List ℕ) (at : ℕ) {new : List ℕ} → at + length m ≤ length out → new ≡ over m (mid_of at (at + length m - at) out) →
    Put m at out (at + length m) (put_mid at (at + length m - at) out new)
unfolding lay
put_slice m out at {new} h e =
    let k : at + length m - at ≡ length m = omega arith in
    let fits : length m ≤ length (drop at out) = omega (arith, length-drop at out) in
    let c : new ≡ m = copied at (at + length m - at) m out (sym k) (omega arith) e in
    record { next = refl; is = rw (k, c) (ap (λ (l : List ℕ). take at out ++ l) (sym (over-front m (drop at out) fits))) }

pub ruleset adding = (rules, add_room, add_empty, add_there, add_new_lem, put_slice)

-- How many there are then

pub with_new : (d place : ℕ) → place ≡ d → d + 1 ≡ pick (eqb place d) (d + 1) d
with_new d place e = rw (eq-eqb place d e)

pub with_old : (d place : ℕ) → (place ≡ d → ⊥) → d ≡ pick (eqb place d) (d + 1) d
with_old d place n = rw (ne_eqb place d n)

pub ruleset counting = (rules, with_new, with_old)

-- All masks, one after the other

few_add : (ds : List (List ℕ)) (m : List ℕ) → length (add_new ds m) ≤ suc (length ds)
few_add ds m = add_cases (λ l. length l ≤ suc (length ds)) ds m (omega arith) (λ _. omega (arith, length-append ds (m ∷ [])))

pub few_distinct : (ds ms : List (List ℕ)) → length (distinct ds ms) ≤ length ds + length ms
unfolding distinct
few_distinct ds [] = omega arith
few_distinct ds (m ∷ ms) = omega (arith, few_distinct (add_new ds m) ms, few_add ds m)

-- written over and over with more of the same
over_again : (xs ys d : List ℕ) → over (xs ++ ys) (over xs d) ≡ over (xs ++ ys) d
unfolding over
over_again [] ys d = refl
over_again (x ∷ xs) ys [] = refl
over_again (x ∷ xs) ys (y ∷ d) = ap (λ (l : List ℕ). x ∷ l) (over_again xs ys d)

stand_again : (ds : List (List ℕ)) (m old : List ℕ) → lay 0 (flat (add_new ds m)) (lay 0 (flat ds) old) ≡ lay 0 (flat (add_new ds m)) old
unfolding lay
stand_again ds m old =
    add_cases (λ l. over (flat l) (over (flat ds) old) ≡ over (flat l) old) ds m
    (rw append-nil at (over_again (flat ds) [] old))
    (λ _. rw (flat_append ds (m ∷ [])) (over_again (flat ds) (flat (m ∷ [])) old))

pub length-places : (ds ms : List (List ℕ)) → length (places_in ds ms) ≡ length ms
unfolding places_in
length-places ds [] = refl
length-places ds (m ∷ ms) = ap suc (length-places ds ms)

-- how many there are behind a mask whose place is known
count_entered : (ds : List (List ℕ)) (m : List ℕ) (d r : ℕ) → d ≡ length ds → d < 2048 → r ≡ place_of (add_new ds m) m →
    pick (eqb r d) (d + 1) d ≡ length (add_new ds m)
unfolding add_new
count_entered ds m d r z h p = go (is_zero m) refl
  where
    same : add_new ds m ≡ ds → (r ≡ d → ⊥) → pick (eqb r d) (d + 1) d ≡ length (add_new ds m)
    same e n = rw (ne_eqb r d n) (z ∙ ap length (sym e))

    go : (t : Bool) → is_zero m ≡ t → pick (eqb r d) (d + 1) d ≡ length (add_new ds m)
    go true e = same (rw e) (λ q. omega (arith, p, place_none (add_new ds m) m e))
    go false e =
        le_cases (length ds) (index ds m)
        (λ l.
        let is : add_new ds m ≡ ds ++ (m ∷ []) = rw (e, le-ltb (index ds m) (length ds) l) in
        let at : r ≡ index (ds ++ (m ∷ [])) m = p ∙ place_some (add_new ds m) m e ∙ ap (λ (x : List (List ℕ)). index x m) is in
        let eq : r ≡ d = at ∙ index-last ds m l ∙ sym z in
        rw (eq-eqb r d eq) (omega (arith, length-append ds (m ∷ []), ap length is)))
        (λ l.
        let is : add_new ds m ≡ ds = rw (e, lt-ltb (index ds m) (length ds) l) in
        let at : r ≡ index ds m = p ∙ place_some (add_new ds m) m e ∙ ap (λ (x : List (List ℕ)). index x m) is in
        same is (λ q. omega arith))

-- the places of the masks qs among the distinct ones of the masks all
abbrev pub places_among : List (List ℕ) → List (List ℕ) → List ℕ
places_among all qs = places_in (distinct [] all) qs

pub record Gathering (ms : List ℕ) (count words : ℕ) (old olds : List ℕ) (left at d i : ℕ) (out places : List ℕ) : Type 0 where
  pub ds : List (List ℕ)
  pub there : at + left * words ≤ length ms
  pub all : distinct ds (chunks left words (drop at ms)) ≡ distinct [] (chunks count words ms)
  pub size : d ≡ length ds
  pub wide : Wide words ds
  pub is : out ≡ lay 0 (flat ds) old
  pub long : length out ≡ length old
  pub few : d + left ≤ count
  pub room : count * words ≤ length old
  pub most : count ≤ 2047
  pub going : Going (places_among (chunks count words ms) (chunks count words ms)) 0 olds
      (places_among (chunks count words ms) (chunks left words (drop at ms))) i places

pub gather_start : (ms : List ℕ) (count words : ℕ) (old olds : List ℕ) → Spaced ms count words old olds →
    Gathering ms count words old olds count 0 0 0 old olds
unfolding flat
gather_start ms count words old olds s =
    record {
      ds = [];
      there = omega (arith, s.some);
      all = refl;
      size = refl;
      wide = tt;
      is = sym (lay-none 0 old);
      long = refl;
      few = omega arith;
      room = s.room;
      most = s.few;
      going = going_start (places_among (chunks count words ms) (chunks count words ms)) 0 olds
          (omega (arith, length-places (distinct [] (chunks count words ms)) (chunks count words ms), length-chunks count words ms, s.each));
    }

module _ (ms : List ℕ) (count words : ℕ) (old olds : List ℕ) (left at d i : ℕ) (out places : List ℕ)
    (g : Gathering ms count words old olds left at d i out places) where
  abbrev all : List (List ℕ)
  all = chunks count words ms

  abbrev m : List ℕ
  m = take words (drop at ms)

  abbrev rest : List (List ℕ)
  rest = chunks (left - 1) words (drop (at + words) ms)

  module _ (n : 0 < left) where
    pub gather_one : at + words ≤ length ms
    gather_one = one_there at left words n g.there

    pub gather_room : d * words + words ≤ length out
    gather_room =
        let le : suc d ≤ count = omega (arith, g.few) in
        omega (arith, suc-mul d words, mul-le-mul_right words le, g.room, g.long)

    pub gather_few : d < 2048
    gather_few = omega (arith, g.few, g.most)

    opened : chunks left words (drop at ms) ≡ m ∷ rest
    unfolding chunks
    opened =
        let more : left ≡ suc (left - 1) = omega arith in
        ap (λ (k : ℕ). chunks k words (drop at ms)) more ∙ (rw (drop-drop words at ms))

    stand : chunks d words out ≡ g.ds
    unfolding lay
    stand =
        let fits : length (flat g.ds) ≤ length old =
        omega (arith, length-flat words g.ds g.wide, ap (λ (k : ℕ). k * words) g.size, gather_room, g.long) in
        let front : out ≡ flat g.ds ++ drop (length (flat g.ds)) old = g.is ∙ over-front (flat g.ds) old fits in
        ap₂ (λ (k : ℕ) (l : List ℕ). chunks k words l) g.size front ∙ chunks-flat words g.ds (drop (length (flat g.ds)) old) g.wide

    next : distinct g.ds (chunks left words (drop at ms)) ≡ distinct (add_new g.ds m) rest
    unfolding distinct
    next = ap (distinct g.ds) opened

    placing : Going (places_among all all) 0 olds (place_of (distinct [] all) m ∷ places_among all rest) i places
    unfolding places_in
    placing = subst (λ (l : List (List ℕ)). Going (places_among all all) 0 olds (places_among all l) i places) opened g.going

    pub gather_place : i < length places
    gather_place =
        going_place (places_among all all) 0 olds (places_among all rest) i places (place_of (distinct [] all) m) placing

    pub gather_turn : {r e : ℕ} {new : List ℕ} → Entered (chunks d words out) m out r new → e ≡ pick (eqb r d) (d + 1) d →
        Gathering ms count words old olds (left - 1) (at + words) e (i + 1) new (set places i r)
    gather_turn {r} {e} {new} s c =
        let size : length m ≡ words = length-take-le words (drop at ms) (omega (arith, length-drop at ms, gather_one)) in
        let now : add_new (chunks d words out) m ≡ add_new g.ds m = ap (λ (l : List (List ℕ)). add_new l m) stand in
        let whole : distinct (add_new g.ds m) rest ≡ distinct [] all = sym next ∙ g.all in
        let place : r ≡ place_of (add_new g.ds m) m = s.place ∙ ap (λ (l : List (List ℕ)). place_of l m) now in
        let last : r ≡ place_of (distinct [] all) m =
        place ∙ sym (place_keep g.ds rest m) ∙ ap (λ (l : List (List ℕ)). place_of l m) whole in
        let count_is : e ≡ length (add_new g.ds m) = c ∙ count_entered g.ds m d r g.size gather_few place in
        record {
          ds = add_new g.ds m;
          there = one_more_lem at left words n g.there;
          all = whole;
          size = count_is;
          wide = wide_add words g.ds m g.wide size;
          is = s.is ∙ ap₂ (λ (l : List (List ℕ)) (o : List ℕ). lay 0 (flat l) o) now g.is ∙ stand_again g.ds m old;
          long = ap length s.is ∙ lay-length 0 (flat (add_new (chunks d words out) m)) out ∙ g.long;
          few = omega (arith, count_is, few_add g.ds m, g.size, g.few);
          room = g.room;
          most = g.most;
          going =
              subst (λ (x : ℕ). Going (places_among all all) 0 olds (places_among all rest) (i + 1) (set places i x)) (sym last)
              (going_put (places_among all all) 0 olds (places_among all rest) i places (place_of (distinct [] all) m) placing);
        }

  pub gather_same : length places ≡ length olds
  gather_same = g.going.size

  pub gather_done : left ≤ 0 → Gathered (chunks count words ms) old d out olds places
  unfolding chunks distinct places_in
  gather_done n =
      let z : left ≡ 0 = omega arith in
      let all' : g.ds ≡ distinct [] all = rw z at g.all in
      let done : Going (places_among all all) 0 olds [] i places = rw z at g.going in
      record {
        masks = record { count = g.size ∙ ap length all'; is = g.is ∙ ap (λ (l : List (List ℕ)). lay 0 (flat l) old) all' };
        places = (going_done (places_among all all) 0 olds done).is;
      }

-- The same by the place i of the mask: the loop counts it

pub step_start : (ms : List ℕ) (count words : ℕ) (old olds : List ℕ) → Spaced ms count words old olds →
    Gathering ms count words old olds (count - 0) (0 * words) 0 0 old olds
step_start ms count words old olds s =
    let a : count - 0 ≡ count = omega arith in
    let b : 0 * words ≡ 0 = omega arith in
    rw (a, b) (gather_start ms count words old olds s)

module _ (ms : List ℕ) (count words : ℕ) (old olds : List ℕ) (i d : ℕ) (out places : List ℕ)
    (g : Gathering ms count words old olds (count - i) (i * words) d i out places) where
  abbrev part : List ℕ
  part = take (i * words + words - i * words) (drop (i * words) ms)

  module _ (n : i < count) where
    pub step_one : i * words + words ≤ length ms
    step_one = gather_one ms count words old olds (count - i) (i * words) d i out places g (omega arith)

    is_part : part ≡ take words (drop (i * words) ms)
    is_part = let k : i * words + words - i * words ≡ words = omega arith in rw k

    part_size : length part ≡ words
    part_size = ap length is_part ∙ length-take-le words (drop (i * words) ms) (omega (arith, length-drop (i * words) ms, step_one))

    pub step_room : d * length part + length part ≤ length out
    step_room = rw part_size (gather_room ms count words old olds (count - i) (i * words) d i out places g (omega arith))

    pub step_few : d < 2048
    step_few = gather_few ms count words old olds (count - i) (i * words) d i out places g (omega arith)

    pub step_place : i < length places
    step_place = gather_place ms count words old olds (count - i) (i * words) d i out places g (omega arith)

    pub step_turn : {r e : ℕ} {new : List ℕ} → Entered (chunks d (length part) out) part out r new → e ≡ pick (eqb r d) (d + 1) d →
        Gathering ms count words old olds (count - (i + 1)) ((i + 1) * words) e (i + 1) new (set places i r)
    step_turn s c =
        let a : count - (i + 1) ≡ count - i - 1 = omega arith in
        rw (a, one_more_words i words)
        (gather_turn ms count words old olds (count - i) (i * words) d i out places g (omega arith) (rw (part_size, is_part) at s) c)

  pub step_done : count ≤ i → Gathered (chunks count words ms) old d out olds places
  step_done h = gather_done ms count words old olds (count - i) (i * words) d i out places g (omega arith)

pub ruleset gathering = (rules, step_start, step_one, step_room, step_few, step_place, step_turn, step_done)
