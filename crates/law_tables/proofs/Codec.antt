-- A codec: a reader and the words of one kind of record, of which each undoes the other. Closed under fields, blocks, pairs and counted lists,
-- since each of these readers goes on exactly where the part before it stopped. Assumes nothing.
use mathlib.Core.Path.{◌≡◌, refl, sym, ap, subst, ◌∙◌}
use mathlib.Core.List.{List, [], ◌∷◌, ◌++◌, append_assoc}
use mathlib.Core.Bool.{Bool, true, false}
use Prim.Native.Nat.{ℕ, zero, suc, ◌+◌, ◌-◌, ◌≤◌, ◌<◌}
use native.Mathlib.Omega.{arith}
use lib.Dec.{leb}
use lib.ListN.{length, get_or, take, drop, length-append, take-append-drop}
use lib.Seq.{get_or_at, drop_at, take_at, length-take-le}
use borrow.Author.Tests.{lt-ltb, le-ltb, le-leb, leb-true}
use Rattle.refusal.specs.Said.{FIELD}
use Rattle.refusal.specs.Lists.{pick, each}
use Rattle.word_reader.specs.Parse.{Place}
use Rattle.std.specs.Prelude.{Ok, Err}
use Rattle.word_reader.specs.Parse.{refused, short, and_then, word, fields, block, many, section, both}
use Rattle.law_tables.specs.Table.{counted, All}
use Rattle.law_tables.specs.Whole.{Fit}

-- w goes on with rest at place `at`
pub record At (w : List ℕ) (at : ℕ) (rest : List ℕ) : Type 0 where
  pub pre : List ℕ
  pub whole : w ≡ pre ++ rest
  pub here : length pre ≡ at

-- rest opens with the words of a record that its fields allow, and these end at p
pub record Split (A : Type 0) (words : A → List ℕ) (Valid : A → Type 0) (rest : List ℕ) (at p : ℕ) : Type 0 where
  pub item : A
  pub post : List ℕ
  pub valid : Valid item
  pub opens : rest ≡ words item ++ post
  pub ends : at + length (words item) ≡ p

pub record Codec (A : Type 0) (read : List ℕ → ℕ → Place) (words : A → List ℕ) (Valid : A → Type 0) : Type 0 where
  pub complete : (x : A) (w : List ℕ) (at : ℕ) (post : List ℕ) → Valid x → At w at (words x ++ post) → read w at ≡ Ok (at + length (words x))
  pub sound : (w : List ℕ) (at p : ℕ) (rest : List ℕ) → Fit w → At w at rest → read w at ≡ Ok p → Split A words Valid rest at p

-- Moving on

pub start : (w : List ℕ) → At w 0 w
start w = record { pre = []; whole = refl; here = refl }

pub here : (w : List ℕ) (at : ℕ) → at ≤ length w → At w at (drop at w)
here w at h = record { pre = take at w; whole = sym (take-append-drop at w); here = length-take-le at w h }

pub same : {w : List ℕ} {at : ℕ} {r s : List ℕ} → At w at r → r ≡ s → At w at s
same {w} {at} a e = subst (At w at) e a

pub on : {w : List ℕ} {at : ℕ} (xs ys : List ℕ) → At w at (xs ++ ys) → At w (at + length xs) ys
on xs ys a =
    record { pre = a.pre ++ xs; whole = a.whole ∙ sym (append_assoc a.pre xs ys); here = length-append a.pre xs ∙ ap (λ n. n + length xs) a.here }

pub to : {w : List ℕ} {at p : ℕ} {r : List ℕ} → At w at r → at ≡ p → At w p r
to {w} {r = r} a e = subst (λ n. At w n r) e a

pub at_length : {w : List ℕ} {at : ℕ} {r : List ℕ} → At w at r → length w ≡ at + length r
at_length {r = r} a = ap length a.whole ∙ length-append a.pre r ∙ ap (λ n. n + length r) a.here

pub at_head : {w : List ℕ} {at x : ℕ} {r : List ℕ} → At w at (x ∷ r) → get_or w at 0 ≡ x
at_head {at = at} {x = x} {r = r} a = ap (λ l. get_or l at 0) a.whole ∙ get_or_at a.pre x r 0 at a.here

pub at_drop : {w : List ℕ} {at : ℕ} {r : List ℕ} → At w at r → drop at w ≡ r
at_drop {at = at} {r = r} a = ap (drop at) a.whole ∙ drop_at a.pre r at a.here

-- behind a record
pub past : {A : Type 0} {words : A → List ℕ} {Valid : A → Type 0} {w rest : List ℕ} {at p : ℕ}
    → At w at rest → (s : Split A words Valid rest at p) → At w p s.post
past {words = words} a s = to (on (words s.item) s.post (same a s.opens)) s.ends

-- One word

pub word_reads : {w : List ℕ} {at x : ℕ} {r : List ℕ} (k : ℕ → Place) → At w at (x ∷ r) → word w at k ≡ k x
unfolding word
word_reads {w} {at} k a = let h : at < length w = omega (arith, at_length a) in rw (lt-ltb _ _ h, at_head a)

pub record Headed (rest : List ℕ) (k : ℕ → Place) (p : ℕ) : Type 0 where
  pub head : ℕ
  pub tail : List ℕ
  pub opens : rest ≡ head ∷ tail
  pub reads : k head ≡ Ok p

word_never : {w : List ℕ} {at p : ℕ} (k : ℕ → Place) → At w at [] → word w at k ≡ Ok p → ⊥
unfolding word
word_never {w} {at} k a v =
    let h : length w ≤ at = omega (arith, at_length a) in
    let u = rw (le-ltb at (length w) h) at v in
    let z : ◌≡◌ {A = ℕ} 0 1 = cc in omega arith

pub word_read : {w : List ℕ} {at p : ℕ} {rest : List ℕ} (k : ℕ → Place) → At w at rest → word w at k ≡ Ok p → Headed rest k p
word_read {rest = []} k a e = absurd (word_never k a e)
word_read {rest = x ∷ r} k a e = record { head = x; tail = r; opens = refl; reads = sym (word_reads k a) ∙ e }

-- Fields

abbrev pub Tests : Type 0
Tests = List (ℕ → Bool)

-- the numbers of a record, each with its field's test
abbrev pub Tuple : Tests → Type 0
Tuple [] = Unit {0}
Tuple (t ∷ ts) = (x : ℕ) × (t x ≡ true) × Tuple ts

abbrev pub flat : (ts : Tests) → Tuple ts → List ℕ
flat [] v = []
flat (t ∷ ts) v = v.0 ∷ flat ts v.2

abbrev pub Always : {A : Type 0} → A → Type 0
Always x = Unit {0}

pub fields_complete : (ts : Tests) (v : Tuple ts) (w : List ℕ) (at : ℕ) (post : List ℕ) → At w at (flat ts v ++ post)
    → fields ts w at ≡ Ok (at + length (flat ts v))
unfolding fields
fields_complete [] v w at post a = ap Ok (omega arith)
fields_complete (t ∷ ts) v w at post a =
    let rest = fields_complete ts v.2 w (at + 1) post (on (v.0 ∷ []) (flat ts v.2 ++ post) a) in
    let e : at + 1 + length (flat ts v.2) ≡ at + suc (length (flat ts v.2)) = omega arith in
    word_reads (λ x. pick (t x) (fields ts w (at + 1)) (refused FIELD at)) a ∙ (rw v.1 (rest ∙ ap Ok e))

pub fields-sound : (ts : Tests) (w : List ℕ) (at p : ℕ) (rest : List ℕ) → At w at rest → fields ts w at ≡ Ok p → Split (Tuple ts) (flat ts) Always rest at p
unfolding fields
fields-sound [] w at p rest a e = let q : at ≡ p = cc in record { item = tt; post = rest; valid = tt; opens = refl; ends = omega arith }
fields-sound (t ∷ ts) w at p rest a e =
    go (t h.head) refl h.reads (fields-sound ts w (at + 1) p h.tail (on (h.head ∷ []) h.tail (same a h.opens)))
  where
    h : Headed rest (λ x. pick (t x) (fields ts w (at + 1)) (refused FIELD at)) p
    h = word_read (λ x. pick (t x) (fields ts w (at + 1)) (refused FIELD at)) a e

    go : (b : Bool) → t h.head ≡ b → pick b (fields ts w (at + 1)) (refused FIELD at) ≡ Ok p
        → (fields ts w (at + 1) ≡ Ok p → Split (Tuple ts) (flat ts) Always h.tail (at + 1) p)
        → Split (Tuple (t ∷ ts)) (flat (t ∷ ts)) Always rest at p
    go false u v rec = let z : ◌≡◌ {A = ℕ} 0 1 = cc in absurd (omega arith)
    go true u v rec =
        let s = rec v in
        let e : at + suc (length (flat ts s.item)) ≡ p = omega (arith, s.ends) in
        record { item = (h.head, u, s.item); post = s.post; valid = tt; opens = h.opens ∙ ap (λ l. h.head ∷ l) s.opens; ends = e }

pub of_fields : (ts : Tests) → Codec (Tuple ts) (fields ts) (flat ts) Always
of_fields ts = record { complete = λ v w at post _ a. fields_complete ts v w at post a; sound = λ w at p rest _ a e. fields-sound ts w at p rest a e }

-- One record behind another

pub paired : {A B : Type 0} {r s : List ℕ → ℕ → Place} {f : A → List ℕ} {g : B → List ℕ} {G : A → Type 0} {U : B → Type 0}
    → Codec A r f G → Codec B s g U → Codec (A × B) (both r s) (λ x. f x.0 ++ g x.1) (λ x. G x.0 × U x.1)
unfolding both and_then
paired {A} {B} {r} {s} {f} {g} {G} {U} c d = record { complete = done; sound = λ w at p rest u a e. go w at p rest u a (r w at) refl e }
  where
    done : (x : A × B) (w : List ℕ) (at : ℕ) (post : List ℕ) → G x.0 × U x.1 → At w at ((f x.0 ++ g x.1) ++ post)
        → and_then (r w at) (s w) ≡ Ok (at + length (f x.0 ++ g x.1))
    done x w at post v a =
        let b = same a (append_assoc (f x.0) (g x.1) post) in
        let one = c.complete x.0 w at (g x.1 ++ post) v.0 b in
        let two = d.complete x.1 w (at + length (f x.0)) post v.1 (on (f x.0) (g x.1 ++ post) b) in
        let e : at + length (f x.0) + length (g x.1) ≡ at + length (f x.0 ++ g x.1) = omega (arith, length-append (f x.0) (g x.1)) in
        rw one (two ∙ ap Ok e)

    go : (w : List ℕ) (at p : ℕ) (rest : List ℕ) → Fit w → At w at rest → (o : Place) → r w at ≡ o → and_then o (s w) ≡ Ok p
        → Split (A × B) (λ x. f x.0 ++ g x.1) (λ x. G x.0 × U x.1) rest at p
    go w at p rest fit a (Err o) u v = let z : ◌≡◌ {A = ℕ} 0 1 = cc in absurd (omega arith)
    go w at p rest fit a (Ok q) u v =
        let i = c.sound w at q rest fit a u in
        let j = d.sound w q p i.post fit (past a i) v in
        let e : at + length (f i.item ++ g j.item) ≡ p = omega (arith, length-append (f i.item) (g j.item), i.ends, j.ends) in
        record {
          item = (i.item, j.item);
          post = j.post;
          valid = (i.valid, j.valid);
          opens = i.opens ∙ ap (λ l. f i.item ++ l) j.opens ∙ sym (append_assoc (f i.item) (g j.item) j.post);
          ends = e;
        }

-- The same words, seen as another record

pub mapped : {A B : Type 0} {r : List ℕ → ℕ → Place} {f : A → List ℕ} {g : B → List ℕ} {G : A → Type 0} {U : B → Type 0}
    → (made : (a : A) → G a → (b : B) × U b × (g b ≡ f a)) → (seen : (b : B) → U b → (a : A) × G a × (f a ≡ g b)) → Codec A r f G → Codec B r g U
mapped {A} {B} {r} {f} {g} {G} {U} made seen c = record { complete = done; sound = found }
  where
    done : (x : B) (w : List ℕ) (at : ℕ) (post : List ℕ) → U x → At w at (g x ++ post) → r w at ≡ Ok (at + length (g x))
    done x w at post v a =
        let y = seen x v in
        c.complete y.0 w at post y.1 (same a (ap (λ l. l ++ post) (sym y.2))) ∙ ap (λ l. Ok (at + length l)) y.2

    found : (w : List ℕ) (at p : ℕ) (rest : List ℕ) → Fit w → At w at rest → r w at ≡ Ok p → Split B g U rest at p
    found w at p rest fit a e =
        let s = c.sound w at p rest fit a e in
        let y = made s.item s.valid in
        record {
          item = y.0;
          post = s.post;
          valid = y.1;
          opens = s.opens ∙ ap (λ l. l ++ s.post) (sym y.2);
          ends = ap (λ l. at + length l) y.2 ∙ s.ends;
        }

-- Records, one behind the other

module _ {A : Type 0} {r : List ℕ → ℕ → Place} {f : A → List ℕ} {G : A → Type 0} (c : Codec A r f G) where
  pub many_complete : (xs : List A) (w : List ℕ) (at : ℕ) (post : List ℕ) → All G xs → At w at (each f xs ++ post)
      → many (r w) (length xs) at ≡ Ok (at + length (each f xs))
  unfolding many and_then each All
  many_complete [] w at post v a = ap Ok (omega arith)
  many_complete (x ∷ xs) w at post v a =
      let b = same a (append_assoc (f x) (each f xs) post) in
      let one = c.complete x w at (each f xs ++ post) v.0 b in
      let rest = many_complete xs w (at + length (f x)) post v.1 (on (f x) (each f xs ++ post) b) in
      let e : at + length (f x) + length (each f xs) ≡ at + length (f x ++ each f xs) = omega (arith, length-append (f x) (each f xs)) in
      rw one (rest ∙ ap Ok e)

  pub many-sound : (n : ℕ) (w : List ℕ) (at p : ℕ) (rest : List ℕ) → Fit w → At w at rest → many (r w) n at ≡ Ok p
      → Split (List A) (each f) (λ xs. (length xs ≡ n) × All G xs) rest at p
  unfolding many and_then each All
  many-sound zero w at p rest fit a e = let q : at ≡ p = cc in record { item = []; post = rest; valid = (refl, tt); opens = refl; ends = omega arith }
  many-sound (suc n) w at p rest fit a e = go (r w at) refl e (λ q z l. many-sound n w q z l fit)
    where
      go : (o : Place) → r w at ≡ o → and_then o (many (r w) n) ≡ Ok p
          → ((q z : ℕ) (l : List ℕ) → At w q l → many (r w) n q ≡ Ok z → Split (List A) (each f) (λ xs. (length xs ≡ n) × All G xs) l q z)
          → Split (List A) (each f) (λ xs. (length xs ≡ suc n) × All G xs) rest at p
      go (Err o) u v rec = let z : ◌≡◌ {A = ℕ} 0 1 = cc in absurd (omega arith)
      go (Ok q) u v rec =
          let i = c.sound w at q rest fit a u in
          let j = rec q p i.post (past a i) v in
          let e : at + length (f i.item ++ each f j.item) ≡ p = omega (arith, length-append (f i.item) (each f j.item), i.ends, j.ends) in
          record {
            item = i.item ∷ j.item;
            post = j.post;
            valid = (ap suc j.valid.0, (i.valid, j.valid.1));
            opens = i.opens ∙ ap (λ l. f i.item ++ l) j.opens ∙ sym (append_assoc (f i.item) (each f j.item) j.post);
            ends = e;
          }

  -- a count, and so many records
  pub of_section : Codec (List A) (section r) (counted f) (All G)
  unfolding section
  of_section = record { complete = done; sound = found }
    where
      done : (xs : List A) (w : List ℕ) (at : ℕ) (post : List ℕ) → All G xs → At w at (counted f xs ++ post)
          → section r w at ≡ Ok (at + length (counted f xs))
      done xs w at post v a =
          let rest = many_complete xs w (at + 1) post v (on (length xs ∷ []) (each f xs ++ post) a) in
          let e : at + 1 + length (each f xs) ≡ at + suc (length (each f xs)) = omega arith in
          word_reads (λ n. many (r w) n (at + 1)) a ∙ rest ∙ ap Ok e

      found : (w : List ℕ) (at p : ℕ) (rest : List ℕ) → Fit w → At w at rest → section r w at ≡ Ok p → Split (List A) (counted f) (All G) rest at p
      found w at p rest fit a e =
          let h = word_read (λ n. many (r w) n (at + 1)) a e in
          let s = many-sound h.head w (at + 1) p h.tail fit (on (h.head ∷ []) h.tail (same a h.opens)) h.reads in
          let l = s.valid.0 in
          let o : rest ≡ length s.item ∷ (each f s.item ++ s.post) = cc in
          let q : at + suc (length (each f s.item)) ≡ p = omega (arith, s.ends) in
          record { item = s.item; post = s.post; valid = s.valid.1; opens = o; ends = q }

-- Words that are judged together

abbrev pub Block : ℕ → (List ℕ → Bool) → List ℕ → Type 0
Block n good l = (length l ≡ n) × (good l ≡ true)

pub block_complete : (n : ℕ) (good : List ℕ → Bool) (l : List ℕ) (w : List ℕ) (at : ℕ) (post : List ℕ) → Block n good l → At w at (l ++ post)
    → block n good w at ≡ Ok (at + length l)
unfolding block
block_complete n good l w at post v a =
    let h : at + n ≤ length w = omega (arith, v.0, at_length a, length-append l post) in
    let t : take n (drop at w) ≡ l = ap (take n) (at_drop a) ∙ take_at l post n v.0 in
    let g : good (take n (drop at w)) ≡ true = ap good t ∙ v.1 in
    rw (le-leb (at + n) (length w) h, g) (ap (λ m. Ok (at + m)) (sym v.0))

pub block-sound : (n : ℕ) (good : List ℕ → Bool) (w : List ℕ) (at p : ℕ) (rest : List ℕ) → At w at rest → block n good w at ≡ Ok p
    → Split (List ℕ) (λ l. l) (Block n good) rest at p
unfolding block
block-sound n good w at p rest a e = go (leb (at + n) (length w)) refl (good (take n (drop at w))) refl e
  where
    go : (b : Bool) → leb (at + n) (length w) ≡ b → (d : Bool) → good (take n (drop at w)) ≡ d
        → pick b (pick d (Ok (at + n)) (refused FIELD at)) (short w) ≡ Ok p
        → Split (List ℕ) (λ l. l) (Block n good) rest at p
    go false u d g v = let z : ◌≡◌ {A = ℕ} 0 1 = cc in absurd (omega arith)
    go true u false g v = let z : ◌≡◌ {A = ℕ} 0 1 = cc in absurd (omega arith)
    go true u true g v =
        let q : at + n ≡ p = cc in
        let h : n ≤ length rest = omega (arith, leb-true (at + n) (length w) u, at_length a) in
        let l = length-take-le n rest h in
        let t : good (take n rest) ≡ true = ap (λ m. good (take n m)) (sym (at_drop a)) ∙ g in
        record { item = take n rest; post = drop n rest; valid = (l, t); opens = sym (take-append-drop n rest); ends = ap (λ m. at + m) l ∙ q }

pub of_block : (n : ℕ) (good : List ℕ → Bool) → Codec (List ℕ) (block n good) (λ l. l) (Block n good)
of_block n good = record { complete = block_complete n good; sound = λ w at p rest _ a e. block-sound n good w at p rest a e }
