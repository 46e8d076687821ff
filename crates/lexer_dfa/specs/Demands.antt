-- The words in which the demands are stated (document 00, "The demands, as agreed"). Assumes nothing.
use Rattle.std.specs.Prelude.{Result, Ok, Option, Some, ℕ, suc, ◌≤◌, ◌<◌, ◌≡◌, Bool, true, ◌&&◌, List, [], ◌∷◌, ◌⊎◌, eqb, ltb, length, get_or, take}
use contract.Lifetimes.{Lfts}
use Rattle.std.specs.Borrow.{Bor, MutBor}
use Rattle.refusal.specs.declared.Refusal.{Refusal}
use Rattle.refusal.specs.Said.{Said, no_by, ok, no, NOT-TABLE, ROOM}
use Rattle.refusal.specs.Lists.{some}
use Rattle.buffer.specs.Written as written
use Rattle.buffer.specs.Over.{padded}
use Rattle.run_ranges.specs.declared.AsciiRange.{AsciiRange}
use Rattle.run_ranges.specs.Ranges.{loops_at, exits_at, in_ranges, ordered}
use Rattle.run_shape.specs.Shape.{Shape, none, any, until, ranges}
use Rattle.run_classify.proofs.classify.Reads as classify
use Rattle.run_scan.proofs.scan.Reads as scan
use Rattle.run_scan.proofs.scan_length.Reads as scan-length
use Rattle.look_scan.proofs.scan_ascii_run.Reads as scan-ascii-run
use Rattle.look_scan.proofs.scan_ascii_run_length.Reads as scan-ascii-run-length
use Rattle.law_tables.specs.Table.{Table, words_of, Fields}
use Rattle.law_tables.specs.Rules.{Rules}
use Rattle.law_tables.specs.Whole.{Fit}
use Rattle.law_tables.specs.Fronts.{Exactly}
use Rattle.law_tables.specs.Normal.{normal}
use Rattle.room_decode.specs.Decode as decoding
use Rattle.room_decode.proofs.decode.Reads as decode
use Rattle.room_encode.proofs.encode.Reads as encode
use Rattle.room_coverage.specs.OnTable.{coverage_on}
use Rattle.room_coverage.proofs.coverage.Reads as coverage
use Rattle.room_decode.specs.Decode.{Decoding}
use Rattle.room_find.specs.declared.Missing.{Missing}
use Rattle.run_shape.specs.Shape.{Got}
use Rattle.run_shape.specs.declared.AsciiRun.{AsciiRun}
use Rattle.run_shape.specs.declared.AsciiRunScan.{AsciiRunScan}

-- Demand 2: "Given its room, decoding accepts the lists of up to 8,192 words that meet the layout and the nine index rules, and no others."

-- decode may answer x by its own contract, and leave these numbers in the room, which is its second argument at exit
abbrev pub DecodeAnswers : (words : Bor (List ℕ)) (room : MutBor (List ℕ)) → Decoding → List ℕ → Type 0
DecodeAnswers words room x left = (κs : Lfts 2) × (e : _) × decode.Learnt κs (words, (room, tt)) x e × (e.1.0.now ≡ left)

-- w is up to 8,192 words that meet the layout and the nine index rules: the words of a table whose fields are allowed and which obeys the rules. It has so
-- many modes, states and words. A table keeps a flag as its word, so any word stands for a flag
pub record Accepted (w : List ℕ) (modes states words : ℕ) : Type 0 where
  pub table : Table
  pub limit : length w ≤ 8192
  pub layout : w ≡ words_of table
  pub fields : Fields table
  pub rules : Rules table
  pub of_modes : modes ≡ length table.modes
  pub of_states : states ≡ length table.states
  pub of_words : words ≡ length w

-- Demand 2: "Encoding the result gives the same words with nonzero flags made 1; decoding that gives the same table."

-- encode may answer x by its own contract, and leave these numbers in the output, which is its second argument at exit
abbrev pub EncodeAnswers : (room : Bor (List ℕ)) (out : MutBor (List ℕ)) → Result ℕ Refusal → List ℕ → Type 0
EncodeAnswers room out x left = (κs : Lfts 2) × (e : _) × encode.Learnt κs (room, (out, tt)) x e × (e.1.0.now ≡ left)

-- v is the words w with nonzero flags made 1: w is the words of a table, and v those of the table with its flags so made
pub record FlagsMade (w v : List ℕ) : Type 0 where
  pub table : Table
  pub fields : Fields table
  pub before : w ≡ words_of table
  pub after : v ≡ words_of (normal table)

-- words w were decoded into a room of n numbers with the answer x, which left d there: so they go there and back
pub record RoundTrip (w : List ℕ) (n : ℕ) (x : Decoding) (d : List ℕ) : Type 0 where
  pub made : List ℕ
  pub flags : FlagsMade w made
  pub as_many : length made ≡ length w
  -- encoding the room into an output that is long enough answers how many words there are, and leaves them with nonzero flags made 1, then zeros
  pub encoded : (room : Bor (List ℕ)) (out : MutBor (List ℕ)) → room.now ≡ d → length w ≤ length out.now → (y : Result ℕ Refusal) (left : List ℕ) → EncodeAnswers room out y left →
      (written.said y ≡ ok (length w ∷ [])) × (left ≡ padded (length out.now) made)
  -- decoding those into a room of as many numbers gives the same answer, and leaves the same room, number for number
  pub again : (words : Bor (List ℕ)) (room : MutBor (List ℕ)) → words.now ≡ made → length room.now ≡ n → (y : Decoding) (left : List ℕ) → DecodeAnswers words room y left →
      (y ≡ x) × (left ≡ d)

-- Document 01: "Encoding and coverage give NOT-TABLE exactly when the room isn't what decoding leaves for some accepted words; encoding gives ROOM next, when
-- the output is shorter than needed."

-- d is what decoding leaves for the accepted words w: lent a room of as many numbers, decode may answer w with a table, by its own contract, and leave d
pub record Leaves (w d : List ℕ) : Type 0 where
  pub fit : Fit w
  pub words : Bor (List ℕ)
  pub are_words : words.now ≡ w
  pub room : MutBor (List ℕ)
  pub as_long : length room.now ≡ length d
  pub answer : Decoding
  pub leaves : DecodeAnswers words room answer d
  pub modes : ℕ
  pub states : ℕ
  pub count : ℕ
  pub accepted : decoding.said answer ≡ ok (modes ∷ states ∷ count ∷ [])

-- what encode says of a room d and an output of n numbers
pub record EncodedBy (d : List ℕ) (n : ℕ) (says : Said) : Type 0 where
  -- the room is left for no words
  pub not_table_lem : (p : ℕ) → Exactly (says ≡ no NOT-TABLE p) ((p ≡ 0) × ((w : List ℕ) → Leaves w d → ⊥))
  -- it is left for some, and the output is shorter than they are
  pub room : (p : ℕ) → Exactly (says ≡ no ROOM p) ((p ≡ 0) × (w : List ℕ) × Leaves w d × (n < length w))
  -- it is left for some, and the output is long enough: so many are answered
  pub accepts : (k : ℕ) → Exactly (says ≡ ok (k ∷ [])) ((w : List ℕ) × Leaves w d × (length w ≤ n) × (k ≡ length w))
  -- no other number is given, and no item
  pub no_other : (r : Refusal) → says ≡ no_by r → ((r.number ≡ NOT-TABLE) ⊎ (r.number ≡ ROOM)) × (r.item ≡ 0)

-- coverage may answer x by its own contract
abbrev pub CoverageAnswers : (room : Bor (List ℕ)) (state : ℕ) → Result ℕ Missing → Type 0
CoverageAnswers room state x = (κs : Lfts 1) × (e : _) × coverage.Learnt κs (room, (state, tt)) x e

-- what coverage says of a room d and a state
pub record CoveredBy (d : List ℕ) (state : ℕ) (says : Said) : Type 0 where
  -- the room is left for no words
  pub not_table_lem : (p : ℕ) → Exactly (says ≡ no NOT-TABLE p) ((p ≡ 0) × ((w : List ℕ) → Leaves w d → ⊥))
  -- it is left for some: they are those of a table, and how many points are not dead in the state is answered, or STATE where the table has no such state
  pub counts : (w : List ℕ) → Leaves w d → (t : Table) × (w ≡ words_of t) × Fields t × Rules t × (says ≡ coverage_on t state)

-- Demand 2: "Over ASCII-only bytes, a state's run, where it has one, is the longest front part on which it loops."

-- every byte is below 128
abbrev pub AsciiOnly : List ℕ → Type 0
AsciiOnly bs = (i : ℕ) → i < length bs → get_or bs i 0 < 128

-- the state loops on a byte: the byte's target in the state's row is the state
abbrev pub LoopsOn : ℕ → List ℕ → ℕ → Type 0
LoopsOn state row b = get_or row b 0 ≡ state

-- the longest front part on which P holds has n bytes: each of them has P, and the next byte, if there is one, has not
pub record Longest (P : ℕ → Type 0) (bs : List ℕ) (n : ℕ) : Type 0 where
  pub within : n ≤ length bs
  pub holds : (i : ℕ) → i < n → P (get_or bs i 0)
  pub stops : n < length bs → P (get_or bs n 0) → ⊥

-- two scans of an input hand back that front part of the input itself, and say its length and whether bytes are left; `tells` is how such an answer looks
pub record ScansLongest {X : Type 0} (tells : ℕ → Bool → X) (P : ℕ → Type 0) (input part : Bor (List ℕ)) (says : X) : Type 0 where
  pub bytes : ℕ
  pub longest : Longest P input.now bytes
  pub front : part.now ≡ take bytes input.now
  pub itself : part.ref_ptr ≡ input.ref_ptr
  pub told : says ≡ tells bytes (ltb bytes (length input.now))

-- by the run of a row, and by the run of a state in a room
abbrev pub run_tells : ℕ → Bool → Option AsciiRunScan
run_tells n b = Some (record { bytes = n; found_exit = b })

abbrev pub state_tells : ℕ → Bool → Result (Option AsciiRunScan) Refusal
state_tells n b = Ok (Some (record { bytes = n; found_exit = b }))

-- x is what the call may answer by its own contract, at some lifetimes and with some arguments at exit
abbrev pub ClassifyAnswers : (row : Bor (List ℕ)) (state : ℕ) → Got → Type 0
ClassifyAnswers row state x = (κs : Lfts 1) × (e : _) × classify.Learnt κs (row, (state, tt)) x e

abbrev pub ScanAnswers : (run : AsciiRun) (input : Bor (List ℕ)) → Bor (List ℕ) → Type 0
ScanAnswers run input x = (κs : Lfts 1) × (e : _) × scan.Learnt κs (run, (input, tt)) x e

abbrev pub ScanLengthAnswers : (run : AsciiRun) (input : Bor (List ℕ)) → Option AsciiRunScan → Type 0
ScanLengthAnswers run input x = (κs : Lfts 1) × (e : _) × scan-length.Learnt κs (run, (input, tt)) x e

abbrev pub StateScanAnswers : (room : Bor (List ℕ)) (state : ℕ) (input : Bor (List ℕ)) → Bor (List ℕ) → Type 0
StateScanAnswers room state input x = (κs : Lfts 2) × (e : _) × scan-ascii-run.Learnt κs (room, (state, (input, tt))) x e

abbrev pub StateScanLengthAnswers : (room : Bor (List ℕ)) (state : ℕ) (input : Bor (List ℕ)) → Result (Option AsciiRunScan) Refusal → Type 0
StateScanLengthAnswers room state input x = (κs : Lfts 2) × (e : _) × scan-ascii-run-length.Learnt κs (room, (state, (input, tt))) x e

-- Document 01: "symbols not looping on the state are exits. 0 exits give any; 1 to 3 give until, ascending;
-- otherwise the maximal looping ranges if 1 to 4, else none."

-- the exits of a row: exactly its symbols whose target is not the state, each above the one before
pub record Exits (state : ℕ) (row es : List ℕ) : Type 0 where
  pub exact : (b : ℕ) → some (eqb b) es ≡ (ltb b (length row) && exits_at state (get_or row b 0))
  pub ascending : (i : ℕ) → suc i < length es → get_or es i 0 < get_or es (suc i) 0

-- the maximal looping ranges of a row: they hold exactly its symbols whose target is the state, and each high + 1 is below the next low, so that no two touch
pub record LoopRanges (state : ℕ) (row : List ℕ) (rs : List AsciiRange) : Type 0 where
  pub exact : (b : ℕ) → in_ranges rs b ≡ (ltb b (length row) && loops_at state (get_or row b 0))
  pub apart : ordered 0 rs ≡ true

-- n is from low to high
abbrev pub From : (low high : ℕ) → ℕ → Type 0
From low high n = (low ≤ n) × (n ≤ high)

-- s is the run that the sentence gives to a row
pub record Described (state : ℕ) (row : List ℕ) (s : Shape) : Type 0 where
  pub exits : List ℕ
  pub looping : List AsciiRange
  pub are_exits : Exits state row exits
  pub are_ranges : LoopRanges state row looping
  pub no_exit : length exits ≡ 0 → s ≡ any
  pub few_exits : From 1 3 (length exits) → s ≡ until exits
  pub few_ranges : 3 < length exits → From 1 4 (length looping) → s ≡ ranges looping
  pub else_none : 3 < length exits → (From 1 4 (length looping) → ⊥) → s ≡ none
