-- A run and its words: `run_at` accepts at a place exactly the words of a shape that its fields allow; and what is read there is that shape.
-- A word is its four bytes, so the kind and the bytes of packed bytes are those bytes; the rest is the tests, kind by kind. Assumes nothing.
use mathlib.Core.Path.{◌≡◌, refl, sym, ap, subst, ◌∙◌}
use mathlib.Core.List.{List, [], ◌∷◌, ◌++◌}
use mathlib.Core.Bool.{Bool, true, false, ◌&&◌}
use Prim.Native.Nat.{ℕ, zero, suc, ◌+◌, ◌*◌, ◌-◌, ◌≤◌, ◌<◌, ◌%◌, ◌/◌}
use native.Mathlib.Omega.{arith}
use lib.Dec.{ltb, leb, eqb}
use lib.ListN.{length, take, drop}
use lib.Seq.{length-take-le}
use borrow.Author.Tests.{lt-ltb, le-ltb, le-leb, lt-leb, ltb-true, leb-true, eqb-true, eqb-false, eq-eqb, ne_eqb}
use Rattle.refusal.specs.Said.{FIELD, SHORT}
use Rattle.refusal.specs.Lists.{pick, every}
use Rattle.run_ranges.specs.declared.AsciiRange.{AsciiRange}
use Rattle.run_ranges.specs.Ranges.{range, up_to_four, follows, ordered, is_zero, unused, good_ranges, checked, range_in, unpacked, half_of, ranges_of_run}
use Rattle.run_shape.specs.declared.AsciiRun.{AsciiRun}
use Rattle.run_shape.specs.declared.AsciiRun.TheVariants as runs
use Rattle.run_shape.specs.declared.RunWords.{RunWords}
use Rattle.run_shape.specs.Shape.{Shape, none, any, until, ranges, shape, held, Got, refused}
use Rattle.run_shape.specs.Words.{or_field, short_run, kind_of, bytes_of, ranges_run, read_at, size_of, words_of_run}
use Rattle.refusal.proofs.Lists.{and_split}
use Rattle.std.specs.Prelude.{Option, Some, None, Ok, Err}
use Rattle.refusal.specs.declared.Refusal.{Refusal}
use Rattle.run_ranges.specs.declared.AsciiRanges.{AsciiRanges}
use Rattle.word_reader.specs.Records.{after_run, run_at}
use Rattle.law_tables.specs.Table.{packed, bytes, run_words, All, InOrder, RunFields}
use Rattle.law_tables.specs.Whole.{Fit}
use Rattle.law_tables.proofs.Codec.{At, Split, Codec, on, at_length, at_head}

-- Bytes

module _ (a b c d : ℕ) (ha : a < 256) (hb : b < 256) (hc : c < 256) where
  byte0 : (a + 256 * (b + 256 * (c + 256 * d))) % 256 ≡ a
  byte0 = omega arith

  byte1 : (a + 256 * (b + 256 * (c + 256 * d))) / 256 % 256 ≡ b
  byte1 = omega arith

  byte2 : (a + 256 * (b + 256 * (c + 256 * d))) / 65536 % 256 ≡ c
  byte2 = omega arith

  byte3 : (a + 256 * (b + 256 * (c + 256 * d))) / 16777216 ≡ d
  byte3 = omega arith

four : (y : ℕ) → y % 256 + 256 * (y / 256 % 256 + 256 * (y / 65536 % 256 + 256 * (y / 16777216))) ≡ y
four y = omega arith

pub list1 : {x y : ℕ} → x ≡ y → x ∷ [] ≡ y ∷ []
list1 e = cc

pub list3 : {x y z a b c : ℕ} → a ≡ x → b ≡ y → c ≡ z → a ∷ b ∷ c ∷ [] ≡ x ∷ y ∷ z ∷ []
list3 e f g = cc

-- What is read at a place, by what stands there

pub read_nothing : {w : List ℕ} {at : ℕ} → At w at [] → read_at w at ≡ refused SHORT (length w)
unfolding read_at
read_nothing {w} {at} p = let h : length w ≤ at = omega (arith, at_length p) in rw (le-ltb at (length w) h)

pub read_short : {w post : List ℕ} {at x : ℕ} → At w at (x ∷ post) → (kind_of x ≡ 5 → ⊥) → read_at w at ≡ short_run at (kind_of x) (bytes_of x)
unfolding read_at
read_short {w} {at = at} {x = x} p n = let l : at < length w = omega (arith, at_length p) in rw (lt-ltb at (length w) l, at_head p, ne_eqb (kind_of x) 5 n)

pub read_cut : {w post : List ℕ} {at x : ℕ} → At w at (x ∷ post) → length post < 2 → kind_of x ≡ 5 → read_at w at ≡ refused SHORT (length w)
unfolding read_at
read_cut {w} {post} {at = at} {x = x} p h k =
    let l : at < length w = omega (arith, at_length p) in
    let m : length w < at + 3 = omega (arith, at_length p) in
    rw (lt-ltb at (length w) l, at_head p, eq-eqb (kind_of x) 5 k, lt-leb (at + 3) (length w) m)

pub read_long : {w post : List ℕ} {at x y z : ℕ} → At w at (x ∷ y ∷ z ∷ post) → kind_of x ≡ 5
    → read_at w at ≡ ranges_run at (ranges_of_run x (record { first = y; second = z }))
unfolding read_at
read_long {w} {post} {at} {x} {y} {z} p k =
    let l : at < length w = omega (arith, at_length p) in
    let m : at + 3 ≤ length w = omega (arith, at_length p) in
    let q = on (x ∷ []) (y ∷ z ∷ post) p in
    rw (lt-ltb at (length w) l, at_head p, eq-eqb (kind_of x) 5 k, le-leb (at + 3) (length w) m, at_head q, at_head (on (y ∷ []) (z ∷ post) q))

-- A run of one word, from its shape

bytes_are : (x k a b c : ℕ) → x ≡ k + 256 * (a + 256 * (b + 256 * c)) → k < 256 → a < 256 → b < 256 → bytes_of x ≡ a ∷ b ∷ c ∷ []
bytes_are x k a b c e hk ha hb = rw e (list3 (byte1 k a b c hk ha hb) (byte2 k a b c hk ha hb) (byte3 k a b c hk ha hb))

-- a word is read by its kind and its bytes
short_reads : {w post : List ℕ} {at x : ℕ} (k a b c : ℕ) → At w at (x ∷ post) → x ≡ k + 256 * (a + 256 * (b + 256 * c)) → k < 5 → a < 256 → b < 256
    → read_at w at ≡ short_run at k (a ∷ b ∷ c ∷ [])
short_reads {x = x} k a b c p e hk ha hb =
    let f : kind_of x ≡ k = ap kind_of e ∙ byte0 k a b c (omega arith) ha hb in
    read_short p (omega arith) ∙ (rw (f, bytes_are x k a b c e (omega arith) ha hb))

until_reads : (es : List ℕ) {w : List ℕ} (post : List ℕ) {at : ℕ} → 1 ≤ length es → length es ≤ 3 → All (λ e. e < 128) es
    → At w at (run_words (until es) ++ post) → read_at w at ≡ Ok (held (until es))
unfolding run_words packed All short_run or_field every held
until_reads [] post h l v p = absurd (omega arith)
until_reads (a ∷ []) post h l v p =
    let ha : a < 128 = v.0 in
    short_reads 2 a 0 0 p (omega arith) (omega arith) (omega arith) (omega arith) ∙ (rw (lt-ltb a 128 ha))
until_reads (a ∷ b ∷ []) post h l v p =
    let ha : a < 128 = v.0 in
    let hb : b < 128 = v.1.0 in
    short_reads 3 a b 0 p (omega arith) (omega arith) (omega arith) (omega arith) ∙ (rw (lt-ltb a 128 ha, lt-ltb b 128 hb))
until_reads (a ∷ b ∷ c ∷ []) post h l v p =
    let ha : a < 128 = v.0 in
    let hb : b < 128 = v.1.0 in
    let hc : c < 128 = v.1.1.0 in
    short_reads 4 a b c p (omega arith) (omega arith) (omega arith) (omega arith) ∙ (rw (lt-ltb a 128 ha, lt-ltb b 128 hb, lt-ltb c 128 hc))
until_reads (a ∷ b ∷ c ∷ d ∷ es) post h l v p = absurd (omega arith)

-- A run of three words, from its ranges

-- ranges in order pass the test of it, and are ranges of ASCII symbols
in_order_lem : (least : ℕ) (rs : List AsciiRange) → InOrder least rs → ordered least rs ≡ true
unfolding InOrder ordered
in_order_lem least [] v = refl
in_order_lem least (r ∷ rs) v = rw (le-leb least r.low v.0, le-leb r.low r.high v.1, le-leb r.high 127 v.2, in_order_lem (r.high + 2) rs v.3)

abbrev Small : AsciiRange → Type 0
Small r = (r.low < 256) × (r.high < 256)

abbrev empty : AsciiRange
empty = range 0 0

empty_small : Small empty
empty_small = (omega arith, omega arith)

in_bytes : (least : ℕ) (rs : List AsciiRange) → InOrder least rs → All Small rs
unfolding InOrder All
in_bytes least [] v = tt
in_bytes least (r ∷ rs) v = ((omega (arith, v.1, v.2), omega (arith, v.2)), in_bytes (r.high + 2) rs v.3)

-- a half of a word holds a range; a word that holds two is unpacked into them
abbrev pair_of : AsciiRange → AsciiRange → ℕ
pair_of r s = half_of r + 65536 * half_of s

half_is : (r : AsciiRange) → Small r → (h : ℕ) → h ≡ half_of r → range_in h ≡ r
half_is r a h e =
    let i : h % 256 ≡ r.low = omega (arith, a.0, a.1) in
    let q : h / 256 ≡ r.high = omega (arith, a.0, a.1) in
    let j : r.high % 256 ≡ r.high = omega (arith, a.1) in
    rw (i, q, j)

module _ (r s : AsciiRange) (a : Small r) (b : Small s) (y : ℕ) (e : y ≡ pair_of r s) where
  first_half : range_in (y % 65536) ≡ r
  first_half = half_is r a (y % 65536) (omega (arith, a.0, a.1))

  second_half : range_in (y / 65536) ≡ s
  second_half = half_is s b (y / 65536) (omega (arith, a.0, a.1))

-- four places, of which c hold ranges
abbrev places : AsciiRange → AsciiRange → AsciiRange → AsciiRange → List AsciiRange
places r s t u = r ∷ s ∷ t ∷ u ∷ []

module _ (c : ℕ) (r s t u : AsciiRange) (a : All Small (places r s t u)) (o : good_ranges c (places r s t u) ≡ true) where
  ranges_are : (x y z : ℕ) → x ≡ 5 + 256 * c → c ≤ 4 → y ≡ pair_of r s → z ≡ pair_of t u
      → ranges_of_run x (record { first = y; second = z }) ≡ Some (record { ranges = places r s t u; count = c })
  unfolding All ranges_of_run checked
  ranges_are x y z ex hc ey ez =
      let k : x % 256 ≡ 5 = omega arith in
      let l : x ≤ 65535 = omega arith in
      let n : x / 256 ≡ c = omega arith in
      rw (
        eq-eqb (x % 256) 5 k,
        le-leb x 65535 l,
        n,
        first_half r s a.0 a.1.0 y ey,
        second_half r s a.0 a.1.0 y ey,
        first_half t u a.1.1.0 a.1.1.1.0 z ez,
        second_half t u a.1.1.0 a.1.1.1.0 z ez,
        o,
      )

  long_reads : {w post : List ℕ} {at x y z : ℕ} → At w at (x ∷ y ∷ z ∷ post) → x ≡ 5 + 256 * c → 1 ≤ c → c ≤ 4 → y ≡ pair_of r s → z ≡ pair_of t u
      → read_at w at ≡ Ok (runs.Ranges (record { ranges = places r s t u; count = c }))
  long_reads {x = x} {y = y} {z = z} p ex h1 hc ey ez = read_long p (omega arith) ∙ (rw (ranges_are x y z ex hc ey ez))

ranges_reads : (rs : List AsciiRange) {w : List ℕ} (post : List ℕ) {at : ℕ} → 1 ≤ length rs → length rs ≤ 4 → InOrder 0 rs
    → At w at (run_words (ranges rs) ++ post) → read_at w at ≡ Ok (held (ranges rs))
unfolding run_words packed bytes All held up_to_four good_ranges unused
ranges_reads [] post h l v p = absurd (omega arith)
ranges_reads (a ∷ []) post h l v p =
    let b = in_bytes 0 (a ∷ []) v in
    long_reads 1 a empty empty empty (b.0, (empty_small, (empty_small, (empty_small, tt)))) (rw (in_order_lem 0 (a ∷ []) v)) p refl (omega arith)
    (omega arith) (omega arith) refl
ranges_reads (a ∷ c ∷ []) post h l v p =
    let b = in_bytes 0 (a ∷ c ∷ []) v in
    long_reads 2 a c empty empty (b.0, (b.1.0, (empty_small, (empty_small, tt)))) (rw (in_order_lem 0 (a ∷ c ∷ []) v)) p refl (omega arith)
    (omega arith) (omega arith) refl
ranges_reads (a ∷ c ∷ d ∷ []) post h l v p =
    let b = in_bytes 0 (a ∷ c ∷ d ∷ []) v in
    long_reads 3 a c d empty (b.0, (b.1.0, (b.1.1.0, (empty_small, tt)))) (rw (in_order_lem 0 (a ∷ c ∷ d ∷ []) v)) p refl (omega arith) (omega arith)
    (omega arith) (omega arith)
ranges_reads (a ∷ c ∷ d ∷ e ∷ []) post h l v p =
    long_reads 4 a c d e (in_bytes 0 (a ∷ c ∷ d ∷ e ∷ []) v) (rw (in_order_lem 0 (a ∷ c ∷ d ∷ e ∷ []) v)) p refl (omega arith) (omega arith)
    (omega arith) (omega arith)
ranges_reads (a ∷ c ∷ d ∷ e ∷ f ∷ rs) post h l v p = absurd (omega arith)

-- the words of a shape whose fields are good are read as that shape
pub shape_reads : (s : Shape) {w : List ℕ} (post : List ℕ) {at : ℕ} → RunFields s → At w at (run_words s ++ post) → read_at w at ≡ Ok (held s)
unfolding run_words RunFields held short_run or_field every
shape_reads none post v p = short_reads 0 0 0 0 p refl (omega arith) (omega arith) (omega arith)
shape_reads any post v p = short_reads 1 0 0 0 p refl (omega arith) (omega arith) (omega arith)
shape_reads (until es) post v p = until_reads es post v.0 v.1 v.2 p
shape_reads (ranges rs) post v p = ranges_reads rs post v.0 v.1 v.2 p

pub held-shape : (s : Shape) → RunFields s → shape (held s) ≡ s
unfolding RunFields held up_to_four
held-shape none v = refl
held-shape any v = refl
held-shape (until []) v = absurd (omega (arith, v.0))
held-shape (until (a ∷ [])) v = refl
held-shape (until (a ∷ b ∷ [])) v = refl
held-shape (until (a ∷ b ∷ c ∷ [])) v = refl
held-shape (until (a ∷ b ∷ c ∷ d ∷ es)) v = absurd (omega (arith, v.1))
held-shape (ranges []) v = absurd (omega (arith, v.0))
held-shape (ranges (a ∷ [])) v = refl
held-shape (ranges (a ∷ b ∷ [])) v = refl
held-shape (ranges (a ∷ b ∷ c ∷ [])) v = refl
held-shape (ranges (a ∷ b ∷ c ∷ d ∷ [])) v = refl
held-shape (ranges (a ∷ b ∷ c ∷ d ∷ e ∷ rs)) v = absurd (omega (arith, v.1))

-- A run that was read: its shape has good fields, and its words are those that the writer of runs gives

-- the words that the writer gives, as many as it says
abbrev pub listing : RunWords → List ℕ
listing r = take r.length (r.first ∷ r.second ∷ r.third ∷ [])

pub record RunRead (q : AsciiRun) (words : List ℕ) : Type 0 where
  pub allowed : RunFields (shape q)
  pub opened : run_words (shape q) ≡ words
  pub written : run_words (shape q) ≡ listing (words_of_run q)

-- the test held, and the run is the one behind it
picked : (at : ℕ) (b : Bool) (r : AsciiRun) {q : AsciiRun} → pick b (Ok r) (refused FIELD at) ≡ Ok q → (b ≡ true) × (r ≡ q)
picked at true r e = (refl, cc)
picked at false r e = let z : ◌≡◌ {A = ℕ} 0 1 = cc in absurd (omega arith)

never : {q : AsciiRun} {n p : ℕ} → refused n p ≡ Ok q → ⊥
never e = let z : ◌≡◌ {A = ℕ} 0 1 = cc in omega arith

carried : {r q : AsciiRun} {l m : List ℕ} → r ≡ q → l ≡ m → RunRead r l → RunRead q m
carried {r} {m = m} e f h = subst (λ (q : AsciiRun). RunRead q m) e (subst (RunRead r) f h)

zeros : (b : ℕ) (t : Bool) → (eqb b 0 && t) ≡ true → (b ≡ 0) × (t ≡ true)
zeros b t e = let s = and_split (eqb b 0) t e in (eqb-true b 0 s.0, s.1)

no_bytes : (k a b c : ℕ) → (eqb a 0 && (eqb b 0 && (eqb c 0 && true))) ≡ true → k ∷ [] ≡ (k + 256 * (a + 256 * (b + 256 * c))) ∷ []
no_bytes k a b c e =
    let x = zeros a _ e in
    let y = zeros b _ x.1 in
    let z = zeros c _ y.1 in
    list1 (omega (arith, x.0, y.0, z.0))

exits : (b : ℕ) (t : Bool) → (ltb b 128 && t) ≡ true → (b < 128) × (t ≡ true)
exits b t e = let s = and_split (ltb b 128) t e in (ltb-true b 128 s.0, s.1)

no_kind : (at k : ℕ) (l : List ℕ) {q : AsciiRun} → 4 < k → short_run at k l ≡ Ok q → ⊥
unfolding short_run
no_kind at k l h e = never (rw (ne_eqb k 0 (omega arith), ne_eqb k 1 (omega arith), lt-leb k 4 h) at e)

-- a run of one word, by its kind and bytes
short-made : (at k a b c : ℕ) {q : AsciiRun} → short_run at k (a ∷ b ∷ c ∷ []) ≡ Ok q → RunRead q ((k + 256 * (a + 256 * (b + 256 * c))) ∷ [])
unfolding short_run or_field every held run_words packed RunFields All
short-made at zero a b c e =
    let p = picked at (eqb a 0 && (eqb b 0 && (eqb c 0 && true))) runs.None e in
    carried p.1 (no_bytes 0 a b c p.0) (record { allowed = tt; opened = refl; written = refl })
short-made at (suc zero) a b c e =
    let p = picked at (eqb a 0 && (eqb b 0 && (eqb c 0 && true))) runs.Any e in
    carried p.1 (no_bytes 1 a b c p.0) (record { allowed = tt; opened = refl; written = refl })
short-made at (suc (suc zero)) a b c e =
    let p = picked at ((ltb a 128 && true) && (eqb b 0 && (eqb c 0 && true))) (runs.Until1 a) e in
    let s = and_split (ltb a 128 && true) (eqb b 0 && (eqb c 0 && true)) p.0 in
    let x = exits a true s.0 in
    let y = zeros b _ s.1 in
    let z = zeros c _ y.1 in
    carried p.1 (list1 (omega (arith, y.0, z.0)))
    (record { allowed = (omega arith, omega arith, (x.0, tt)); opened = refl; written = list1 (omega arith) })
short-made at (suc (suc (suc zero))) a b c e =
    let p = picked at ((ltb a 128 && (ltb b 128 && true)) && (eqb c 0 && true)) (runs.Until2 a b) e in
    let s = and_split (ltb a 128 && (ltb b 128 && true)) (eqb c 0 && true) p.0 in
    let x = exits a _ s.0 in
    let y = exits b true x.1 in
    let z = zeros c _ s.1 in
    carried p.1 (list1 (omega (arith, z.0)))
    (record { allowed = (omega arith, omega arith, (x.0, (y.0, tt))); opened = refl; written = list1 (omega arith) })
short-made at (suc (suc (suc (suc zero)))) a b c e =
    let p = picked at ((ltb a 128 && (ltb b 128 && (ltb c 128 && true))) && true) (runs.Until3 a b c) e in
    let s = and_split (ltb a 128 && (ltb b 128 && (ltb c 128 && true))) true p.0 in
    let x = exits a _ s.0 in
    let y = exits b _ x.1 in
    let z = exits c true y.1 in
    carried p.1 (list1 (omega arith))
    (record { allowed = (omega arith, omega arith, (x.0, (y.0, (z.0, tt)))); opened = refl; written = list1 (omega arith) })
short-made at (suc (suc (suc (suc (suc k))))) a b c e = absurd (no_kind at (suc (suc (suc (suc (suc k))))) (a ∷ b ∷ c ∷ []) (omega arith) e)

-- a run of three words, by its ranges

pub ordered_in : (least : ℕ) (rs : List AsciiRange) → ordered least rs ≡ true → InOrder least rs
unfolding InOrder ordered
ordered_in least [] e = tt
ordered_in least (r ∷ rs) e =
    let s = and_split (follows least r) (ordered (r.high + 2) rs) e in
    let t = and_split (leb least r.low && leb r.low r.high) (leb r.high 127) s.0 in
    let u = and_split (leb least r.low) (leb r.low r.high) t.0 in
    (leb-true _ _ u.0, leb-true _ _ u.1, leb-true _ _ t.1, ordered_in (r.high + 2) rs s.1)

-- an unused place adds nothing to its word
unused_here : (r : AsciiRange) (rs : List AsciiRange) → unused (r ∷ rs) ≡ true → (half_of r ≡ 0) × (unused rs ≡ true)
unfolding unused
unused_here r rs e =
    let s = and_split (is_zero r) (unused rs) e in
    let t = and_split (eqb r.low 0) (eqb r.high 0) s.0 in
    (omega (arith, eqb-true r.low 0 t.0, eqb-true r.high 0 t.1), s.1)

pub record Good (c : ℕ) (rs : List AsciiRange) : Type 0 where
  pub least : 1 ≤ c
  pub most : c ≤ 4
  pub order : InOrder 0 (take c rs)
  pub spare : unused (drop c rs) ≡ true

good_ranges_lem : (c : ℕ) (rs : List AsciiRange) → good_ranges c rs ≡ true → Good c rs
unfolding good_ranges
good_ranges_lem c rs e =
    let s = and_split (leb 1 c) (leb c 4 && (ordered 0 (take c rs) && unused (drop c rs))) e in
    let t = and_split (leb c 4) (ordered 0 (take c rs) && unused (drop c rs)) s.1 in
    let u = and_split (ordered 0 (take c rs)) (unused (drop c rs)) t.1 in
    record { least = leb-true 1 c s.0; most = leb-true c 4 t.0; order = ordered_in 0 (take c rs) u.0; spare = u.1 }

-- the words of the ranges that count are those of all four places, as the others hold nothing
places_words : (c : ℕ) (r s t u : AsciiRange) → Good c (places r s t u)
    → run_words (ranges (take c (places r s t u))) ≡ (5 + 256 * c) ∷ pair_of r s ∷ pair_of t u ∷ []
unfolding run_words packed bytes
places_words zero r s t u g = absurd (omega arith)
places_words (suc zero) r s t u g =
    let x = unused_here s (t ∷ u ∷ []) g.spare in
    let y = unused_here t (u ∷ []) x.1 in
    let z = unused_here u [] y.1 in
    list3 refl (omega (arith, x.0)) (omega (arith, y.0, z.0))
places_words (suc (suc zero)) r s t u g =
    let y = unused_here t (u ∷ []) g.spare in
    let z = unused_here u [] y.1 in
    list3 refl (omega arith) (omega (arith, y.0, z.0))
places_words (suc (suc (suc zero))) r s t u g = let z = unused_here u [] g.spare in list3 refl (omega arith) (omega (arith, z.0))
places_words (suc (suc (suc (suc zero)))) r s t u g = list3 refl (omega arith) (omega arith)
places_words (suc (suc (suc (suc (suc c))))) r s t u g = absurd (omega arith)

-- a word of 32 bits is its two halves, and each of them its two bytes
half-word : (y : ℕ) → y < 4294967296 → pair_of (range_in (y % 65536)) (range_in (y / 65536)) ≡ y
half-word y h =
    let p : y % 65536 / 256 % 256 ≡ y % 65536 / 256 = omega arith in
    let q : y / 65536 / 256 % 256 ≡ y / 65536 / 256 = omega arith in
    rw (p, q) (omega arith)

-- four places with a good count
places-made : (x y z : ℕ) → kind_of x ≡ 5 → x ≤ 65535 → y < 4294967296 → z < 4294967296 → Good (x / 256) (unpacked (record { first = y; second = z }))
    → RunRead (runs.Ranges (record { ranges = unpacked (record { first = y; second = z }); count = x / 256 })) (x ∷ y ∷ z ∷ [])
unfolding RunFields
places-made x y z k l hy hz g =
    let n = length-take-le (x / 256) (unpacked (record { first = y; second = z })) g.most in
    let e = places_words (x / 256) (range_in (y % 65536)) (range_in (y / 65536)) (range_in (z % 65536)) (range_in (z / 65536)) g in
    record { allowed = (omega arith, omega arith, g.order); opened = e ∙ list3 (omega arith) (half-word y hy) (half-word z hz); written = e }

ranges_made : (at x y z : ℕ) {q : AsciiRun} → y < 4294967296 → z < 4294967296 → ranges_run at (ranges_of_run x (record { first = y; second = z })) ≡ Ok q
    → RunRead q (x ∷ y ∷ z ∷ [])
unfolding ranges_of_run checked
ranges_made at x y z {q} hy hz e = go (eqb (x % 256) 5 && leb x 65535) refl (good_ranges (x / 256) (unpacked (record { first = y; second = z }))) refl e
  where
    go : (b : Bool) → (eqb (x % 256) 5 && leb x 65535) ≡ b → (d : Bool) → good_ranges (x / 256) (unpacked (record { first = y; second = z })) ≡ d
        → ranges_run at (pick b (pick d (Some (record { ranges = unpacked (record { first = y; second = z }); count = x / 256 })) None) None) ≡ Ok q
        → RunRead q (x ∷ y ∷ z ∷ [])
    go false u d v e = absurd (never e)
    go true u false v e = absurd (never e)
    go true u true v e =
        let s = and_split (eqb (x % 256) 5) (leb x 65535) u in
        let g = good_ranges_lem (x / 256) (unpacked (record { first = y; second = z })) v in
        carried (cc) refl (places-made x y z (eqb-true _ _ s.0) (leb-true _ _ s.1) hy hz g)

-- A run that is read at a place stands there

pub record Opens (q : AsciiRun) (rest : List ℕ) : Type 0 where
  pub words : List ℕ
  pub post : List ℕ
  pub reads : RunRead q words
  pub whole : rest ≡ words ++ post

pub run_opens : (w : List ℕ) (at : ℕ) (rest : List ℕ) {q : AsciiRun} → Fit w → At w at rest → read_at w at ≡ Ok q → Opens q rest
run_opens w at [] f p e = absurd (never (sym (read_nothing p) ∙ e))
run_opens w at (x ∷ post) {q} f p e = go (eqb (kind_of x) 5) refl post p
  where
    go : (b : Bool) → eqb (kind_of x) 5 ≡ b → (l : List ℕ) → At w at (x ∷ l) → Opens q (x ∷ l)
    go false u l p =
        let r = short-made at (x % 256) (x / 256 % 256) (x / 65536 % 256) (x / 16777216) (sym (read_short p (eqb-false _ _ u)) ∙ e) in
        record { words = x ∷ []; post = l; reads = carried refl (list1 (four x)) r; whole = refl }
    go true u [] p = absurd (never (sym (read_cut p (omega arith) (eqb-true _ _ u)) ∙ e))
    go true u (y ∷ []) p = absurd (never (sym (read_cut p (omega arith) (eqb-true _ _ u)) ∙ e))
    go true u (y ∷ z ∷ l) p =
        let o = on (x ∷ []) (y ∷ z ∷ l) p in
        let n = on (y ∷ []) (z ∷ l) o in
        let hy : y < 4294967296 = rw (at_head o) at (f (at + 1) (omega (arith, at_length p))) in
        let hz : z < 4294967296 = rw (at_head n) at (f (at + 1 + 1) (omega (arith, at_length p))) in
        record { words = x ∷ y ∷ z ∷ []; post = l; reads = ranges_made at x y z hy hz (sym (read_long p (eqb-true _ _ u)) ∙ e); whole = refl }

-- The codec of a run

pub size_words : (q : AsciiRun) → size_of q ≡ length (run_words (shape q))
unfolding run_words
size_words runs.None = refl
size_words runs.Any = refl
size_words (runs.Until1 a) = refl
size_words (runs.Until2 a b) = refl
size_words (runs.Until3 a b c) = refl
size_words (runs.Ranges r) = refl

pub run_codec : Codec Shape run_at run_words RunFields
run_codec = record { complete = done; sound = λ w at p rest f a e. found w at p rest f a (read_at w at) refl e }
  where
    done : (s : Shape) (w : List ℕ) (at : ℕ) (post : List ℕ) → RunFields s → At w at (run_words s ++ post) → run_at w at ≡ Ok (at + length (run_words s))
    done s w at post v a =
        ap (after_run at) (shape_reads s post v a) ∙ ap (λ n. Ok (at + n)) (size_words (held s) ∙ ap (λ x. length (run_words x)) (held-shape s v))

    found : (w : List ℕ) (at p : ℕ) (rest : List ℕ) → Fit w → At w at rest → (g : Got) → read_at w at ≡ g → after_run at g ≡ Ok p
        → Split Shape run_words RunFields rest at p
    found w at p rest f a (Err n) u e = let z : ◌≡◌ {A = ℕ} 0 1 = cc in absurd (omega arith)
    found w at p rest f a (Ok q) u e =
        let o = run_opens w at rest f a u in
        let n : at + size_of q ≡ p = cc in
        record {
          item = shape q;
          post = o.post;
          valid = o.reads.allowed;
          opens = o.whole ∙ ap (λ l. l ++ o.post) (sym o.reads.opened);
          ends = ap (λ l. at + l) (sym (size_words q)) ∙ n;
        }

-- Round trips

-- reading the words of a shape gives a run of that shape
pub read_shape : (s : Shape) {w : List ℕ} (post : List ℕ) {at : ℕ} {q : AsciiRun} → RunFields s → At w at (run_words s ++ post) → read_at w at ≡ Ok q → shape q ≡ s
read_shape s post {q = q} v a e =
    let f = shape_reads s post v a in
    let h : q ≡ held s = cc in
    ap shape h ∙ held-shape s v
