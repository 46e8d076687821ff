-- The bytes of a record and what is read of them: bytes end inside a record, or have a tag or a length of no transition, or are those of one, and are read so.
-- w is a list's bytes. Assumes nothing.
use Prim.Native.Nat.{ℕ, zero, suc, ◌+◌, ◌*◌, ◌/◌, ◌%◌, ◌≤◌, ◌<◌}
use native.Mathlib.Omega.{arith}
use mathlib.Core.Path.{◌≡◌, refl, sym, ap, ap₂, subst, ◌∙◌}
use mathlib.Core.Bool.{Bool, true, false, false≢true}
use mathlib.Core.List.{List, [], ◌∷◌, ◌++◌, append_assoc}
use lib.Dec.{eqb}
use lib.ListN.{length, get_or, take, drop, length-append, take-append-drop}
use lib.Seq.{length-take-le}
use borrow.Author.Tests.{le-leb, lt-leb, eqb-true}
use Rattle.refusal.specs.Said.{SHORT, FIELD, ORDER}
use Rattle.refusal.specs.Lists.{pick, each}
use Rattle.law_tables.specs.Table.{All}
use Rattle.law_tables.proofs.Codec.{At, same, on, at_length, at_head}
use Rattle.list_transitions.specs.Transition.{Pair, Transition, atom, range, set, not_set, wildcard, key, in_order}
use Rattle.list_transitions.specs.Bytes.{size_at, number_at, pairs_at, shape_of, trans_of}
use Rattle.list_transitions.specs.Read.{good, bad, body_at, record_at}
use Rattle.list_transitions.proofs.Order.{le_cases}
use Rattle.lexer_dfa.specs.ListsRefused.{Bytes, word_bytes, number_bytes, pair_bytes, tag_of, value_of, record_bytes, bytes_of, Number, Numbers, EndsInside}
use Rattle.lexer_dfa.specs.ListsRefused.{OfNone, Opens}

-- Bytes

pub record Small (l : List ℕ) : Type 0 where
  pub are : Bytes l

byte_head : {x : ℕ} {r : List ℕ} → Small (x ∷ r) → x < 256
byte_head s = s.are 0 (omega arith)

bytes_tail : {x : ℕ} {r : List ℕ} → Small (x ∷ r) → Small r
bytes_tail s = record { are = λ i h. s.are (suc i) (omega arith) }

pub bytes_behind : (xs : List ℕ) {ys : List ℕ} → Small (xs ++ ys) → Small ys
bytes_behind [] s = s
bytes_behind (x ∷ xs) s = bytes_behind xs (bytes_tail s)

-- Numbers

key_twice : (n : ℕ) → n < 4294967296 → key (key n) ≡ n
key_twice n h = omega arith

digits : (n : ℕ) → n % 256 + 256 * (n / 256 % 256) + 65536 * (n / 65536 % 256) + 16777216 * (n / 16777216) ≡ n
digits n = omega arith

-- what is written is read
number-written : {w : List ℕ} {at : ℕ} (k : ℕ) (rest : List ℕ) → Number k → At w at (number_bytes k ++ rest) → number_at w at ≡ k
unfolding number_at number_bytes
number-written {w} {at} k rest h a =
    let n = key k in
    let b = n % 256 in
    let c = n / 256 % 256 in
    let d = n / 65536 % 256 in
    let e = n / 16777216 in
    let one : get_or w at 0 ≡ b = at_head a in
    let two : get_or w (at + 1) 0 ≡ c = at_head (on (b ∷ []) (c ∷ d ∷ e ∷ rest) a) in
    let three : get_or w (at + 2) 0 ≡ d = at_head (on (b ∷ c ∷ []) (d ∷ e ∷ rest) a) in
    let four : get_or w (at + 3) 0 ≡ e = at_head (on (b ∷ c ∷ d ∷ []) (e ∷ rest) a) in
    rw (one, two, three, four) (ap (λ (m : ℕ). key m) (digits n) ∙ key_twice k h)

number_on : {w : List ℕ} {at : ℕ} (k : ℕ) (rest : List ℕ) → At w at (number_bytes k ++ rest) → At w (at + 4) rest
unfolding number_bytes
number_on k rest a = on (word_bytes (key k)) rest a

-- four bytes are a number's
list4 : {a b c d x y z u : ℕ} → x ≡ a → y ≡ b → z ≡ c → u ≡ d → x ∷ y ∷ z ∷ u ∷ [] ≡ a ∷ b ∷ c ∷ d ∷ []
list4 e f g h = cc

abbrev word : ℕ → ℕ → ℕ → ℕ → ℕ
word a b c d = a + 256 * b + 65536 * c + 16777216 * d

module _ (a b c d : ℕ) (ha : a < 256) (hb : b < 256) (hc : c < 256) (hd : d < 256) where
  word-bytes : word_bytes (word a b c d) ≡ a ∷ b ∷ c ∷ d ∷ []
  word-bytes = list4 (omega arith) (omega arith) (omega arith) (omega arith)

  number-bytes : number_bytes (key (word a b c d)) ≡ a ∷ b ∷ c ∷ d ∷ []
  unfolding number_bytes
  number-bytes = ap (λ (n : ℕ). word_bytes n) (key_twice (word a b c d) (omega arith)) ∙ word-bytes

record OneNumber (rest : List ℕ) : Type 0 where
  number : ℕ
  small : Number number
  post : List ℕ
  opens : rest ≡ number_bytes number ++ post
  size : length rest ≡ 4 + length post
  bytes : Small post

one_number : (rest : List ℕ) → Small rest → 4 ≤ length rest → OneNumber rest
one_number [] s h = absurd (omega arith)
one_number (a ∷ []) s h = absurd (omega arith)
one_number (a ∷ b ∷ []) s h = absurd (omega arith)
one_number (a ∷ b ∷ c ∷ []) s h = absurd (omega arith)
one_number (a ∷ b ∷ c ∷ d ∷ r) s h =
    let sb = bytes_tail s in
    let sc = bytes_tail sb in
    let sd = bytes_tail sc in
    record {
      number = key (word a b c d);
      small = omega arith;
      post = r;
      opens = sym (ap (λ (l : List ℕ). l ++ r) (number-bytes a b c d (byte_head s) (byte_head sb) (byte_head sc) (byte_head sd)));
      size = omega arith;
      bytes = bytes_tail sd;
    }

-- one part behind another
joined : {rest post : List ℕ} (xs ys end : List ℕ) → rest ≡ xs ++ post → post ≡ ys ++ end → rest ≡ (xs ++ ys) ++ end
joined xs ys end e f = e ∙ ap (λ (l : List ℕ). xs ++ l) f ∙ sym (append_assoc xs ys end)

length-number : (k : ℕ) → length (number_bytes k) ≡ 4
unfolding number_bytes
length-number k = refl

-- Pairs

abbrev InPairs : List Pair → Type 0
InPairs ps = All (λ a. Number a.low × Number a.high) ps

pairs_length : (ps : List Pair) → length (each pair_bytes ps) ≡ 8 * length ps
unfolding each
pairs_length [] = refl
pairs_length (a ∷ ps) =
    omega (
      arith,
      length-append (pair_bytes a) (each pair_bytes ps),
      length-append (number_bytes a.low) (number_bytes a.high),
      length-number a.low,
      length-number a.high,
      pairs_length ps,
    )

pairs_written : {w : List ℕ} {at : ℕ} (ps : List Pair) (rest : List ℕ) → InPairs ps → At w at (each pair_bytes ps ++ rest) → pairs_at w (length ps) at ≡ ps
unfolding pairs_at each All
pairs_written [] rest n a = refl
pairs_written {w} {at} (p ∷ ps) rest n a =
    let more = each pair_bytes ps ++ rest in
    let low : At w at (number_bytes p.low ++ (number_bytes p.high ++ more)) =
    same a (append_assoc (pair_bytes p) (each pair_bytes ps) rest ∙ append_assoc (number_bytes p.low) (number_bytes p.high) more) in
    let high : At w (at + 4) (number_bytes p.high ++ more) = number_on p.low (number_bytes p.high ++ more) low in
    let behind : At w (at + 4 + 4) more = number_on p.high more high in
    let eight : at + 4 + 4 ≡ at + 8 = omega arith in
    ap₂ {C = List Pair} (λ x l. x ∷ l)
    (ap₂ {C = Pair} (λ x y. record { low = x; high = y }) (number-written p.low _ n.0.0 low) (number-written p.high _ n.0.1 high))
    (pairs_written {w = w} {at = at + 8} ps rest n.1 (subst (λ (q : ℕ). At w q more) eight behind))

record SomePairs (n : ℕ) (rest : List ℕ) : Type 0 where
  pairs : List Pair
  small : InPairs pairs
  many : length pairs ≡ n
  post : List ℕ
  opens : rest ≡ each pair_bytes pairs ++ post

some_pairs : (n : ℕ) (rest : List ℕ) → Small rest → 8 * n ≤ length rest → SomePairs n rest
unfolding each All
some_pairs zero rest s h = record { pairs = []; small = tt; many = refl; post = rest; opens = refl }
some_pairs (suc n) rest s h =
    let low = one_number rest s (omega arith) in
    let high = one_number low.post low.bytes (omega (arith, low.size)) in
    let more = some_pairs n high.post high.bytes (omega (arith, low.size, high.size)) in
    let a : Pair = record { low = low.number; high = high.number } in
    record {
      pairs = a ∷ more.pairs;
      small = ((low.small, high.small), more.small);
      many = omega (arith, more.many);
      post = more.post;
      opens =
          joined (pair_bytes a) (each pair_bytes more.pairs) more.post
          (joined (number_bytes a.low) (number_bytes a.high) high.post low.opens high.opens) more.opens;
    }

-- A value, by its tag

value_shape : (t : Transition) → shape_of (tag_of t) (length (value_of t)) ≡ true
unfolding shape_of tag_of value_of
value_shape (atom k) = rw (length-number k)
value_shape (range a b) = rw (length-append (number_bytes a) (number_bytes b), length-number a, length-number b)
value_shape (set ps) = let e : length (each pair_bytes ps) % 8 ≡ 0 = omega (arith, pairs_length ps) in rw e
value_shape (not_set ps) = let e : length (each pair_bytes ps) % 8 ≡ 0 = omega (arith, pairs_length ps) in rw e
value_shape wildcard = refl

eighths : (ps : List Pair) → length (each pair_bytes ps) / 8 ≡ length ps
eighths ps = omega (arith, pairs_length ps)

value_written : {w : List ℕ} {p : ℕ} (t : Transition) (more : List ℕ) → Numbers t → At w p (value_of t ++ more) → trans_of w (tag_of t) (length (value_of t)) p ≡ t
unfolding trans_of tag_of value_of Numbers
value_written (atom k) more n a = ap atom (number-written k more n a)
value_written (range a b) more n s =
    let low = same s (append_assoc (number_bytes a) (number_bytes b) more) in
    ap₂ {C = Transition} range (number-written a _ n.0 low) (number-written b more n.1 (number_on a (number_bytes b ++ more) low))
value_written {w} {p} (set ps) more n a = ap set (ap (λ (m : ℕ). pairs_at w m p) (eighths ps) ∙ pairs_written ps more n a)
value_written {w} {p} (not_set ps) more n a = ap not_set (ap (λ (m : ℕ). pairs_at w m p) (eighths ps) ∙ pairs_written ps more n a)
value_written wildcard more n a = refl

-- a value of that size is that of a transition of that tag
record Valued (tag size : ℕ) (rest : List ℕ) : Type 0 where
  transition : Transition
  numbered : Numbers transition
  tagged : tag_of transition ≡ tag
  sized : length (value_of transition) ≡ size
  post : List ℕ
  opens : rest ≡ value_of transition ++ post

module _ (tag size : ℕ) (rest : List ℕ) (s : Small rest) (h : size ≤ length rest) where
  atom_there : tag ≡ 1 → size ≡ 4 → Valued tag size rest
  unfolding tag_of value_of Numbers
  atom_there e f =
      let k = one_number rest s (omega arith) in
      record { transition = atom k.number; numbered = k.small; tagged = sym e; sized = length-number k.number ∙ sym f; post = k.post; opens = k.opens }

  range-there : tag ≡ 2 → size ≡ 8 → Valued tag size rest
  unfolding tag_of value_of Numbers
  range-there e f =
      let a = one_number rest s (omega arith) in
      let b = one_number a.post a.bytes (omega (arith, a.size)) in
      record {
        transition = range a.number b.number;
        numbered = (a.small, b.small);
        tagged = sym e;
        sized = omega (arith, length-append (number_bytes a.number) (number_bytes b.number), length-number a.number, length-number b.number);
        post = b.post;
        opens = joined (number_bytes a.number) (number_bytes b.number) b.post a.opens b.opens;
      }

  module _ (f : size % 8 ≡ 0) where
    pairs_there : SomePairs (size / 8) rest
    pairs_there = some_pairs (size / 8) rest s (omega arith)

    pairs_size : length (each pair_bytes pairs_there.pairs) ≡ size
    pairs_size = omega (arith, pairs_length pairs_there.pairs, pairs_there.many)

    set_there : tag ≡ 3 → Valued tag size rest
    unfolding tag_of value_of Numbers
    set_there e =
        let p = pairs_there in
        record { transition = set p.pairs; numbered = p.small; tagged = sym e; sized = pairs_size; post = p.post; opens = p.opens }

    not-set-there : tag ≡ 4 → Valued tag size rest
    unfolding tag_of value_of Numbers
    not-set-there e =
        let p = pairs_there in
        record { transition = not_set p.pairs; numbered = p.small; tagged = sym e; sized = pairs_size; post = p.post; opens = p.opens }

  wildcard_there : tag ≡ 5 → size ≡ 0 → Valued tag size rest
  unfolding tag_of value_of Numbers
  wildcard_there e f = record { transition = wildcard; numbered = tt; tagged = sym e; sized = sym f; post = rest; opens = refl }

  value_there : shape_of tag size ≡ true → Valued tag size rest
  unfolding shape_of
  value_there g = go (eqb tag 1) refl (eqb tag 2) refl (eqb tag 3) refl (eqb tag 4) refl (eqb tag 5) refl g
    where
      go : (a : Bool) → eqb tag 1 ≡ a → (b : Bool) → eqb tag 2 ≡ b → (c : Bool) → eqb tag 3 ≡ c → (d : Bool) → eqb tag 4 ≡ d → (e : Bool) → eqb tag 5 ≡ e →
          pick a (eqb size 4) (pick b (eqb size 8) (pick c (eqb (size % 8) 0) (pick d (eqb (size % 8) 0) (pick e (eqb size 0) false)))) ≡ true →
          Valued tag size rest
      go true i b j c k d l e m x = atom_there (eqb-true tag 1 i) (eqb-true size 4 x)
      go false i true j c k d l e m x = range-there (eqb-true tag 2 j) (eqb-true size 8 x)
      go false i false j true k d l e m x = set_there (eqb-true (size % 8) 0 x) (eqb-true tag 3 k)
      go false i false j false k true l e m x = not-set-there (eqb-true (size % 8) 0 x) (eqb-true tag 4 l)
      go false i false j false k false l true m x = wildcard_there (eqb-true tag 5 m) (eqb-true size 0 x)
      go false i false j false k false l false m x = absurd (false≢true x)

-- A record is judged

-- what a record of bytes is
pub data Judged (rest : List ℕ) : Type 0 where
  ends_inside : EndsInside rest → Judged rest
  of_none : OfNone rest → Judged rest
  of_one : (t : Transition) → Opens rest t → Judged rest

headed : {a b c x y z : ℕ} {l m : List ℕ} → a ≡ x → b ≡ y → c ≡ z → l ≡ m → a ∷ b ∷ c ∷ l ≡ x ∷ y ∷ z ∷ m
headed e f g h = cc

module _ (tag a b : ℕ) (v : List ℕ) (s : Small (tag ∷ a ∷ b ∷ v)) (h : a + 256 * b ≤ length v) where
  abbrev size : ℕ
  size = a + 256 * b

  low_byte : {n : ℕ} → n ≡ size → a ≡ n % 256
  low_byte e = omega (arith, byte_head (bytes_tail s))

  high_byte : {n : ℕ} → n ≡ size → b ≡ n / 256
  high_byte e = omega (arith, byte_head (bytes_tail s))

  whole-judged : Judged (tag ∷ a ∷ b ∷ v)
  whole-judged = go (shape_of tag size) refl
    where
      go : (g : Bool) → shape_of tag size ≡ g → Judged (tag ∷ a ∷ b ∷ v)
      go false e =
          let n : length (take size v) ≡ size = length-take-le size v h in
          of_none (
            tag,
            take size v,
            drop size v,
            headed refl (low_byte n) (high_byte n) (sym (take-append-drop size v)),
            ap (λ (m : ℕ). shape_of tag m) n ∙ e,
          )
      go true e =
          let r = value_there tag size v (bytes_tail (bytes_tail (bytes_tail s))) h e in
          of_one r.transition (
            r.numbered,
            r.post,
            headed (sym r.tagged) (low_byte r.sized) (high_byte r.sized) r.opens,
          )

pub record_judged : (rest : List ℕ) → Small rest → 1 ≤ length rest → Judged rest
record_judged [] s h = absurd (omega arith)
record_judged (tag ∷ []) s h = ends_inside tt
record_judged (tag ∷ a ∷ []) s h = ends_inside tt
record_judged (tag ∷ a ∷ b ∷ v) s h = le_cases (a + 256 * b) (length v) (λ l. whole-judged tag a b v s l) (λ l. ends_inside l)

-- It is read so

pub short-read : {w : List ℕ} {at : ℕ} (rest : List ℕ) → At w at rest → EndsInside rest → record_at w at ≡ bad SHORT
unfolding record_at size_at
short-read [] s e = absurd e
short-read {w} {at} (tag ∷ []) s e = let m : length w < at + 3 = omega (arith, at_length s) in rw (lt-leb (at + 3) (length w) m)
short-read {w} {at} (tag ∷ a ∷ []) s e = let m : length w < at + 3 = omega (arith, at_length s) in rw (lt-leb (at + 3) (length w) m)
short-read {w} {at} (tag ∷ a ∷ b ∷ v) s e =
    let low : get_or w (at + 1) 0 ≡ a = at_head (on (tag ∷ []) (a ∷ b ∷ v) s) in
    let high : get_or w (at + 1 + 1) 0 ≡ b = at_head (on (a ∷ []) (b ∷ v) (on (tag ∷ []) (a ∷ b ∷ v) s)) in
    let m : at + 3 ≤ length w = omega (arith, at_length s) in
    let l : length w < at + 3 + (a + 256 * b) = omega (arith, at_length s) in
    rw (le-leb (at + 3) (length w) m, low, high, lt-leb (at + 3 + (a + 256 * b)) (length w) l)

module _ {w : List ℕ} {at tag : ℕ} (value more : List ℕ) (s : At w at (record_bytes tag value ++ more)) where
  abbrev low : ℕ
  low = length value % 256

  abbrev high : ℕ
  high = length value / 256

  value_at : At w (at + 3) (value ++ more)
  value_at = on (tag ∷ low ∷ high ∷ []) (value ++ more) s

  size_read : size_at w (at + 1) ≡ length value
  unfolding size_at
  size_read =
      let one = on (tag ∷ []) (low ∷ high ∷ (value ++ more)) s in
      omega (arith, at_head one, at_head (on (low ∷ []) (high ∷ (value ++ more)) one))

  body_read : record_at w at ≡ body_at w at (length value)
  unfolding record_at
  body_read =
      let m : at + 3 ≤ length w = omega (arith, at_length s) in
      let l : at + 3 + length value ≤ length w = omega (arith, at_length s, length-append value more) in
      rw (le-leb (at + 3) (length w) m, size_read, le-leb (at + 3 + length value) (length w) l)

  pub field_read : shape_of tag (length value) ≡ false → record_at w at ≡ bad FIELD
  unfolding body_at
  field_read e = body_read ∙ (rw (at_head s, e))

module _ {w : List ℕ} {at : ℕ} (t : Transition) (n : Numbers t) (more : List ℕ) (s : At w at (bytes_of t ++ more)) where
  transition_read : record_at w at ≡ pick (in_order t) (good t (at + 3 + length (value_of t))) (bad ORDER)
  unfolding body_at
  transition_read =
      body_read (value_of t) more s ∙ (rw (at_head s, value_shape t, value_written t more n (value_at (value_of t) more s)))

  pub good-read : in_order t ≡ true → record_at w at ≡ good t (at + 3 + length (value_of t))
  good-read e = transition_read ∙ (rw e)

  pub order_read : in_order t ≡ false → record_at w at ≡ bad ORDER
  order_read e = transition_read ∙ (rw e)
