-- A table, its words, and what its fields allow: document 01, "Words of a table", read from the table's side. No reader is named here.
use Rattle.std.specs.Prelude.{ℕ, ◌+◌, ◌*◌, ◌<◌, ◌≤◌, ◌≡◌, List, [], ◌∷◌, ◌++◌, ◌⊎◌, length, take, drop}
use Rattle.refusal.specs.Fixed.{tag, NONE}
use Rattle.refusal.specs.Lists.{each}
use Rattle.run_ranges.specs.declared.AsciiRange.{AsciiRange}
use Rattle.run_shape.specs.Shape.{Shape, none, any, until, ranges}

-- What a table is made of. A flag is a word, and set where it is not 0. A run is a shape: none, any, until its exits, or its ranges.

pub record State : Type 0 where
  pub ascii : ℕ
  pub wide : ℕ
  pub eof : ℕ
  pub accept : ℕ

-- low, high and where to: a target, or a continuation
pub record Range : Type 0 where
  pub low : ℕ
  pub high : ℕ
  pub goal : ℕ

pub record Action : Type 0 where
  pub a : ℕ
  pub b : ℕ
  pub c : ℕ

pub record Accept : Type 0 where
  pub rule : ℕ
  pub consumed : ℕ
  pub actions : List Action

pub record Escape : Type 0 where
  pub eof : ℕ
  pub ranges : List Range

pub record Context : Type 0 where
  pub kind : ℕ
  pub a : ℕ
  pub b : ℕ

pub record Config : Type 0 where
  pub state : ℕ
  pub rule : ℕ
  pub flag : ℕ
  pub other : ℕ
  pub context : ℕ
  pub actions : List Action

pub record Continuation : Type 0 where
  pub contexts : List Context
  pub configs : List Config

pub record Table : Type 0 where
  pub modes : List ℕ
  pub states : List State
  pub runs : List Shape
  pub ascii : List (List ℕ)
  pub wide : List (List Range)
  pub accepts : List Accept
  pub escapes : List Escape
  pub continuations : List Continuation

-- The words

-- a count, and so many records
abbrev pub counted : {A : Type 0} → (A → List ℕ) → List A → List ℕ
counted words xs = length xs ∷ each words xs

-- "2. modes: start state, or NONE"
abbrev pub mode_words : ℕ → List ℕ
mode_words m = m ∷ []

-- "3. states: ascii row, wide row, EOF target (at most 65535), accept index or NONE"
abbrev pub state_words : State → List ℕ
state_words s = s.ascii ∷ s.wide ∷ s.eof ∷ s.accept ∷ []

-- bytes in one word, least first
unfoldable pub packed : List ℕ → ℕ
packed [] = 0
packed (b ∷ bs) = b + 256 * packed bs

-- "ranges as low, high bytes"
unfoldable pub bytes : List AsciiRange → List ℕ
bytes [] = []
bytes (r ∷ rs) = r.low ∷ r.high ∷ bytes rs

-- "4. runs: low byte is the kind. 0 none; 1 any; 2, 3, 4 until with that many exits less one in the next bytes .. Kind 5: second byte the count ..
-- then two more words holding ranges"
unfoldable pub run_words : Shape → List ℕ
run_words none = 0 ∷ []
run_words any = 1 ∷ []
run_words (until es) = packed ((length es + 1) ∷ es) ∷ []
run_words (ranges rs) = packed (5 ∷ length rs ∷ []) ∷ packed (take 4 (bytes rs)) ∷ packed (drop 4 (bytes rs)) ∷ []

-- "5. ascii rows: 64 words"
abbrev pub ascii_words : List ℕ → List ℕ
ascii_words l = l

-- "6. wide rows: length, then low, high, target"
abbrev pub range_words : Range → List ℕ
range_words r = r.low ∷ r.high ∷ r.goal ∷ []

abbrev pub wide_words : List Range → List ℕ
wide_words = counted range_words

-- "7. accepts: rule, consumed-EOF flag, action count, actions of three words"
abbrev pub action_words : Action → List ℕ
action_words x = x.a ∷ x.b ∷ x.c ∷ []

abbrev pub accept_words : Accept → List ℕ
accept_words x = x.rule ∷ x.consumed ∷ counted action_words x.actions

-- "8. escape rows: EOF continuation or NONE, length, then low, high, continuation"
abbrev pub escape_words : Escape → List ℕ
escape_words x = x.eof ∷ counted range_words x.ranges

-- "9. continuations: context count, contexts (kind 0 or 1, two words), config count, configs (state, alternative rule or NONE, two flags, context,
-- action count, actions)"
abbrev pub context_words : Context → List ℕ
context_words x = x.kind ∷ x.a ∷ x.b ∷ []

abbrev pub config_words : Config → List ℕ
config_words x = x.state ∷ x.rule ∷ x.flag ∷ x.other ∷ x.context ∷ counted action_words x.actions

abbrev pub continuation_words : Continuation → List ℕ
continuation_words x = counted context_words x.contexts ++ counted config_words x.configs

-- the eight sections, each a count and its records
unfoldable pub section_words : Table → List ℕ
section_words t =
    counted mode_words t.modes
    ++ (counted state_words t.states
    ++ (counted run_words t.runs
    ++ (counted ascii_words t.ascii
    ++ (counted wide_words t.wide
    ++ (counted accept_words t.accepts
    ++ (counted escape_words t.escapes
    ++ counted continuation_words t.continuations))))))

abbrev pub words_of : Table → List ℕ
words_of t = tag ∷ section_words t

-- What the fields allow

unfoldable pub All : {A : Type 0} → (A → Type 0) → List A → Type 0
All P [] = Unit {0}
All P (x ∷ xs) = P x × All P xs

-- "a value from 65536 to NONE-1 is a bad field"
abbrev pub Start : ℕ → Type 0
Start m = (m ≤ 65535) ⊎ (m ≡ NONE)

abbrev pub StateFields : State → Type 0
StateFields s = s.eof ≤ 65535

-- "Each low is at most its high, highs at most 127, each high + 1 below the next low"
unfoldable pub InOrder : ℕ → List AsciiRange → Type 0
InOrder least [] = Unit {0}
InOrder least (r ∷ rs) = (least ≤ r.low) × (r.low ≤ r.high) × (r.high ≤ 127) × InOrder (r.high + 2) rs

-- "until with .. exits .., each below 128"; "the count 1 to 4"
unfoldable pub RunFields : Shape → Type 0
RunFields none = Unit {0}
RunFields any = Unit {0}
RunFields (until es) = (1 ≤ length es) × (length es ≤ 3) × All (λ e. e < 128) es
RunFields (ranges rs) = (1 ≤ length rs) × (length rs ≤ 4) × InOrder 0 rs

abbrev pub AsciiFields : List ℕ → Type 0
AsciiFields l = length l ≡ 64

abbrev pub RangeFields : Range → Type 0
RangeFields r = r.goal ≤ 65535

-- "contexts (kind 0 or 1, two words)"
abbrev pub ContinuationFields : Continuation → Type 0
ContinuationFields c = All (λ x. x.kind ≤ 1) c.contexts

pub record Fields (t : Table) : Type 0 where
  pub modes : All Start t.modes
  pub states : All StateFields t.states
  pub runs : All RunFields t.runs
  pub ascii : All AsciiFields t.ascii
  pub wide : All (All RangeFields) t.wide
  pub continuations : All ContinuationFields t.continuations
