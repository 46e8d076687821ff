-- When a call on a list of transitions refuses, and with which place (document 01, "Transitions, segments, rows" and "Refusals by number"): demand 1, "one
-- numbered refusal, given on the stated condition and never otherwise". A list is said as its bytes, by which no reader is named; w is the bytes that a call is
-- given. Assumes nothing.
use Rattle.std.specs.Prelude.{ℕ, ◌+◌, ◌*◌, ◌/◌, ◌%◌, ◌≤◌, ◌<◌, ◌≡◌, true, false, List, [], ◌∷◌, ◌++◌, ◌⊎◌, length, get_or}
use contract.Lifetimes.{Lfts}
use Rattle.std.specs.Borrow.{Bor, MutBor}
use Rattle.refusal.specs.declared.Refusal.{Refusal}
use Rattle.refusal.specs.Said.{Said, ok, no, no_by, SHORT, FIELD, LIMIT, ROOM, ORDER, TARGETS}
use Rattle.refusal.specs.Lists.{each}
use Rattle.buffer.specs.Over.{zeros}
use Rattle.law_tables.specs.Table.{All}
use Rattle.law_tables.specs.Fronts.{Exactly}
use Rattle.list_transitions.specs.Transition.{Pair, Transition, atom, range, set, not_set, wildcard, key, in_order}
use Rattle.list_transitions.specs.Intervals.{intervals, total}
use Rattle.list_transitions.specs.Bytes.{shape_of}
use Rattle.list_transitions.specs.declared.Transitions.{Transitions}
use Rattle.list_transitions.proofs.read_transitions.Reads as read
use Rattle.list_transitions.proofs.read_intervals.Reads as gathered
use Rattle.list_segments.proofs.char_segments.Reads as segments
use Rattle.list_segments.specs.Segments.{cuts_of, starts}
use Rattle.list_masks.specs.Masks.{words_for, matrix, distinct_of}
use Rattle.law_rows.specs.Row.{numbers}
use Rattle.law_rows.specs.Build.{wide_of, escape_of}
use Rattle.row_build.specs.Answer.{Lent, lent}
use Rattle.lexer_dfa.specs.Demand3.{RowArgs}
use Rattle.std.specs.Prelude.{Result}

-- The bytes of a list

-- every number is a byte
abbrev pub Bytes : List ℕ → Type 0
Bytes bs = (i : ℕ) → i < length bs → get_or bs i 0 < 256

-- "little-endian": the four bytes of a word
abbrev pub word_bytes : ℕ → List ℕ
word_bytes n = (n % 256) ∷ (n / 256 % 256) ∷ (n / 65536 % 256) ∷ (n / 16777216) ∷ []

-- "32-bit two's complement numbers": those of the number whose key is k. 2^31 added twice is nothing, so the key of its key is its word
unfoldable pub number_bytes : ℕ → List ℕ
number_bytes k = word_bytes (key k)

-- "8 each pair"
abbrev pub pair_bytes : Pair → List ℕ
pair_bytes a = number_bytes a.low ++ number_bytes a.high

-- "1 atom (4 bytes), 2 range (8), 3 set and 4 not-set (8 each pair), 5 wildcard (0)"
unfoldable pub tag_of : Transition → ℕ
tag_of (atom k) = 1
tag_of (range a b) = 2
tag_of (set ps) = 3
tag_of (not_set ps) = 4
tag_of wildcard = 5

unfoldable pub value_of : Transition → List ℕ
value_of (atom k) = number_bytes k
value_of (range a b) = number_bytes a ++ number_bytes b
value_of (set ps) = each pair_bytes ps
value_of (not_set ps) = each pair_bytes ps
value_of wildcard = []

-- "one-byte tag, two-byte length, value; little-endian". A call is given bytes, so no value there is longer than two of them can say
abbrev pub record_bytes : ℕ → List ℕ → List ℕ
record_bytes tag value = tag ∷ (length value % 256) ∷ (length value / 256) ∷ value

abbrev pub bytes_of : Transition → List ℕ
bytes_of t = record_bytes (tag_of t) (value_of t)

-- "32-bit .. numbers"
abbrev pub Number : ℕ → Type 0
Number k = k < 4294967296

unfoldable pub Numbers : Transition → Type 0
Numbers (atom k) = Number k
Numbers (range a b) = Number a × Number b
Numbers (set ps) = All (λ a. Number a.low × Number a.high) ps
Numbers (not_set ps) = All (λ a. Number a.low × Number a.high) ps
Numbers wildcard = Unit {0}

-- a list that is not refused: "Sets have each low at most its high, and each next low above the last high", and it is not "over .. 256 transitions; 1,024
-- intervals a list"
pub record Allowed (ts : List Transition) : Type 0 where
  pub numbered : All Numbers ts
  pub ordered : All (λ t. in_order t ≡ true) ts
  pub few : length ts ≤ 256
  pub small : total ts ≤ 1024

-- w is its bytes
abbrev pub IsList : List ℕ → List Transition → Type 0
IsList w ts = Allowed ts × (w ≡ each bytes_of ts)

-- "Record by record: SHORT, FIELD (tag, then length), ORDER, LIMIT; all at the record's offset"

-- w is the bytes of such a list up to p, and `rest` stands from there on
pub record Before (w : List ℕ) (p : ℕ) : Type 0 where
  pub list : List Transition
  pub allowed : Allowed list
  pub rest : List ℕ
  pub whole : w ≡ each bytes_of list ++ rest
  pub place : p ≡ length (each bytes_of list)

-- "1 SHORT | the input ends inside a field or record": there is no more than one or two of the three bytes of tag and length, or fewer bytes stand behind
-- these than the length states
abbrev pub EndsInside : List ℕ → Type 0
EndsInside [] = ⊥
EndsInside (tag ∷ []) = Unit {0}
EndsInside (tag ∷ a ∷ []) = Unit {0}
EndsInside (tag ∷ a ∷ b ∷ value) = length value < a + 256 * b

abbrev pub ShortAt : List ℕ → ℕ → Type 0
ShortAt w p = (b : Before w p) × EndsInside b.rest

-- "FIELD (tag, then length)": a whole record, of another tag, or of a length that its tag does not have
abbrev pub OfNone : List ℕ → Type 0
OfNone rest = (tag : ℕ) × (value : List ℕ) × (more : List ℕ) × (rest ≡ record_bytes tag value ++ more) × (shape_of tag (length value) ≡ false)

abbrev pub FieldAt : List ℕ → ℕ → Type 0
FieldAt w p = (b : Before w p) × OfNone b.rest

-- the record of a transition
abbrev pub Opens : List ℕ → Transition → Type 0
Opens rest t = Numbers t × (more : List ℕ) × (rest ≡ bytes_of t ++ more)

-- "10 ORDER | a set out of order"
abbrev pub OrderAt : List ℕ → ℕ → Type 0
OrderAt w p = (b : Before w p) × (t : Transition) × Opens b.rest t × (in_order t ≡ false)

-- "4 LIMIT | over .. 256 transitions; 1,024 intervals a list": with a transition that is in order there are more
abbrev pub LimitAt : List ℕ → ℕ → Type 0
LimitAt w p =
    (b : Before w p) × (t : Transition) × Opens b.rest t × (in_order t ≡ true)
    × ((256 < length b.list + 1) ⊎ (1024 < total b.list + length (intervals t)))

-- "ROOM comes before the first", and "A row call: ROOM for the buffers above, the records, TARGETS, ROOM for these"

-- what a call asks for: a buffer that is lent before the records is shorter than stated; "targets or continuations differ in number from distinct masks" of a
-- list; a buffer for rows is shorter than stated; and what it tells of a list where none of this is so
pub record Asks : Type 1 where
  pub lacks : Type 0
  pub differ : List Transition → Type 0
  pub lacks_rows : Type 0
  pub values : List Transition → List ℕ

-- buffers as they were lent, every number made 0
abbrev pub zeroed : List (List ℕ) → List (List ℕ)
zeroed [] = []
zeroed (b ∷ bs) = zeros (length b) ∷ zeroed bs

-- "Given exactly when", and "Place returned": what such a call says of w, where buffers were lent to it, and `left` is what it leaves in them
pub record ListRefused (c : Asks) (w : List ℕ) (says : Said) (lent left : List (List ℕ)) : Type 0 where
  pub short : (p : ℕ) → Exactly (says ≡ no SHORT p) ((c.lacks → ⊥) × ShortAt w p)
  pub field : (p : ℕ) → Exactly (says ≡ no FIELD p) ((c.lacks → ⊥) × FieldAt w p)
  pub order : (p : ℕ) → Exactly (says ≡ no ORDER p) ((c.lacks → ⊥) × OrderAt w p)
  pub limit : (p : ℕ) → Exactly (says ≡ no LIMIT p) ((c.lacks → ⊥) × LimitAt w p)
  -- "11 TARGETS | targets or continuations differ in number from distinct masks | 0"
  pub targets : (p : ℕ) → Exactly (says ≡ no TARGETS p) ((p ≡ 0) × (c.lacks → ⊥) × (ts : List Transition) × IsList w ts × c.differ ts)
  -- "7 ROOM | a lent buffer is shorter than stated .. | 0": before the records, or behind TARGETS
  pub room : (p : ℕ) → Exactly (says ≡ no ROOM p)
      ((p ≡ 0) × (c.lacks ⊎ ((c.lacks → ⊥) × (ts : List Transition) × IsList w ts × (c.differ ts → ⊥) × c.lacks_rows)))
  -- a list is told of where nothing is refused
  pub answers : (l : List ℕ) → Exactly (says ≡ ok l)
      ((c.lacks → ⊥) × (ts : List Transition) × IsList w ts × (c.differ ts → ⊥) × (c.lacks_rows → ⊥) × (l ≡ c.values ts))
  -- no other number is given, and no item
  pub no_other : (r : Refusal) → says ≡ no_by r →
      ((r.number ≡ SHORT) ⊎ (r.number ≡ FIELD) ⊎ (r.number ≡ ORDER) ⊎ (r.number ≡ LIMIT) ⊎ (r.number ≡ TARGETS) ⊎ (r.number ≡ ROOM)) × (r.item ≡ 0)
  -- "A refused call zeroes its output buffers"
  pub zero : (r : Refusal) → says ≡ no_by r → left ≡ zeroed lent

-- The calls

-- a call that asks for no targets
abbrev pub list_asks : Type 0 → (List Transition → List ℕ) → Asks
list_asks lacks values = record { lacks = lacks; differ = λ ts. ⊥; lacks_rows = ⊥; values = values }

-- `read_transitions` is lent nothing: it tells how many transitions and intervals there are
abbrev pub transitions_ask : Asks
transitions_ask = list_asks ⊥ (λ ts. length ts ∷ total ts ∷ [])

-- `read_intervals` is lent a buffer for both ends of 1,024 intervals, and tells the same
abbrev pub intervals_ask : ℕ → Asks
intervals_ask n = list_asks (n < 2048) (λ ts. length ts ∷ total ts ∷ [])

-- "segments 4,096 numbers": how many segments
abbrev pub segments_ask : ℕ → Asks
segments_ask s = list_asks (s < 4096) (λ ts. length (starts (cuts_of ts)) ∷ [])

-- "masks 8,192 64-bit words": how many masks, and of how many words each
abbrev pub MasksLack : ℕ → ℕ → Type 0
MasksLack s m = (s < 4096) ⊎ (m < 8192)

abbrev pub matrix_asks : ℕ → ℕ → Asks
matrix_asks s m = list_asks (MasksLack s m) (λ ts. length (matrix ts) ∷ words_for (length ts) ∷ [])

-- "distinct masks the same"
abbrev pub DistinctLack : ℕ → ℕ → ℕ → Type 0
DistinctLack s m d = MasksLack s m ⊎ (d < 8192)

abbrev pub distinct_asks : ℕ → ℕ → ℕ → Asks
distinct_asks s m d = list_asks (DistinctLack s m d) (λ ts. length (distinct_of ts) ∷ words_for (length ts) ∷ [])

-- "Lent: 128 ascii targets, 3 numbers per possible range (6,144 each for wide and escape)": how many numbers the wide row and the escape row have
abbrev pub rows_ask : RowArgs → Asks
rows_ask a = record {
  lacks = DistinctLack (length a.segments.now) (length a.masks.now) (length a.distinct.now);
  differ = λ ts. (length a.targets.now ≡ length (distinct_of ts)) × (length a.conts.now ≡ length (distinct_of ts)) → ⊥;
  lacks_rows = (length a.ascii.now < 128) ⊎ (length a.wide.now < 6144) ⊎ (length a.escape.now < 6144);
  values = λ ts. length (numbers (wide_of ts a.targets.now)) ∷ length (numbers (escape_of ts a.targets.now a.conts.now)) ∷ [];
}

-- how many numbers each buffer of a row call has
abbrev pub lent_by : RowArgs → Lent
lent_by a = lent a.segments.now a.masks.now a.distinct.now a.ascii.now a.wide.now a.escape.now

-- x is what the call may answer by its own contract, and `left` what it leaves in its buffer, which is its second argument at exit; those of the other calls
-- stand in Demand3.antt
abbrev pub TransitionsAnswers : (list : Bor (List ℕ)) → Result Transitions Refusal → Type 0
TransitionsAnswers list x = (κs : Lfts 1) × (e : _) × read.Learnt κs (list, tt) x e

abbrev pub IntervalsAnswers : (list : Bor (List ℕ)) (out : MutBor (List ℕ)) → Result Transitions Refusal → List ℕ → Type 0
IntervalsAnswers list out x left = (κs : Lfts 2) × (e : _) × gathered.Learnt κs (list, (out, tt)) x e × (e.1.0.now ≡ left)

abbrev pub SegmentsAnswers : (list : Bor (List ℕ)) (out : MutBor (List ℕ)) → Result ℕ Refusal → List ℕ → Type 0
SegmentsAnswers list out x left = (κs : Lfts 2) × (e : _) × segments.Learnt κs (list, (out, tt)) x e × (e.1.0.now ≡ left)
