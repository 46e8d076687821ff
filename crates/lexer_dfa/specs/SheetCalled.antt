-- What the calls of the ply sheet's examples may say by their own contracts, and that the examples hold of these. Assumes nothing.
use Rattle.std.specs.Prelude.{ℕ, ◌*◌, ◌≡◌, List, [], ◌∷◌, ◌++◌, length, take}
use contract.Lifetimes.{Lfts}
use Rattle.std.specs.Borrow.{Bor, MutBor}
use Rattle.refusal.specs.Said.{Said, ok, no_by}
use Rattle.run_shape.specs.declared.RunWords.{RunWords}
use Rattle.run_shape.specs.Shape as of_runs
use Rattle.run_shape.specs.Scan as of_scans
use Rattle.run_words.proofs.write_serialized.Reads as write_serialized
use Rattle.room_decode.specs.Decode as codec
use Rattle.list_transitions.specs.declared.Transitions.{Transitions}
use Rattle.list_transitions.specs.Read as of_list
use Rattle.list_segments.specs.Answer as of_segments
use Rattle.list_masks.specs.declared.Masks.{Masks}
use Rattle.list_masks.specs.Answer as of_masks
use Rattle.row_build.specs.declared.Rows.{Rows}
use Rattle.row_build.specs.Answer as of_rows
use Rattle.lexer_dfa.specs.Demands.{ClassifyAnswers, ScanLengthAnswers, DecodeAnswers}
use Rattle.lexer_dfa.specs.Demand3.{RowArgs, RowsLeft, BuildAnswers, MatrixAnswers}
use Rattle.lexer_dfa.specs.ListsRefused.{lent_by, TransitionsAnswers, SegmentsAnswers}
use Rattle.lexer_dfa.specs.Sheet.{Call, classify, words, scan, decode, transitions, segments, masks, rows, word_list, left_said, first_of, product_of, stated}
use Rattle.lexer_dfa.specs.Sheet.{Example, ◌says◌}
use Rattle.std.specs.Prelude.{Result, Ok, Err, Option}
use Rattle.room_decode.specs.Decode.{Decoding}
use Rattle.run_shape.specs.Shape.{Got}
use Rattle.run_shape.specs.declared.AsciiRun.{AsciiRun}
use Rattle.run_shape.specs.declared.AsciiRunScan.{AsciiRunScan}
use Rattle.refusal.specs.declared.Refusal.{Refusal}

-- a slice that has these numbers, and a buffer that has so many
abbrev pub Slice : List ℕ → Type 0
Slice list = (s : Bor (List ℕ)) × (s.now ≡ list)

abbrev pub Buffer : ℕ → Type 0
Buffer n = (s : MutBor (List ℕ)) × (length s.now ≡ n)

-- x is what the call may answer
abbrev pub WordsAnswers : AsciiRun → RunWords → Type 0
WordsAnswers r x = (κs : Lfts 0) × (e : _) × write_serialized.Learnt κs (r, tt) x e

-- P says s of the run that `classify` answered, which has the ranges beside the answer; where it refused, s is the refusal
abbrev pub OfRun : (AsciiRun → Said → Type 0) → Got → Said → Type 0
OfRun P (Ok run) s = P run s
OfRun P (Err r) s = s ≡ no_by r

-- `classify` may answer so of the row and the state, and P says s of that
abbrev pub ClassifiedThen : (row : List ℕ) (state : ℕ) → (AsciiRun → Said → Type 0) → Said → Type 0
ClassifiedThen row state P s = (r : Slice row) × (x : Got) × ClassifyAnswers r.0 state x × OfRun P x s

-- of a run: its words, and what a scan of these bytes tells
abbrev pub WordsSay : AsciiRun → Said → Type 0
WordsSay r s = (x : RunWords) × WordsAnswers r x × (s ≡ ok (word_list x))

abbrev pub ScanSays : List ℕ → AsciiRun → Said → Type 0
ScanSays bytes r s = (input : Slice bytes) × (x : Option AsciiRunScan) × ScanLengthAnswers r input.0 x × (s ≡ of_scans.said x)

-- the call may say this: given slices that have these numbers, and lent buffers of the stated lengths. Of a buffer, what stands in front counts
abbrev pub Answers : Call → Said → Type 0
Answers (classify row state) s = (r : Slice row) × (x : Got) × ClassifyAnswers r.0 state x × (s ≡ of_runs.got_said x)
Answers (words row state) s = ClassifiedThen row state WordsSay s
Answers (scan row state bytes) s = ClassifiedThen row state (ScanSays bytes) s
Answers (decode list room) s =
    (w : Slice list) × (r : Buffer room) × (x : Decoding) × (left : List ℕ) × DecodeAnswers w.0 r.0 x left × (s ≡ codec.said x)
Answers (transitions list) s = (w : Slice list) × (x : Result Transitions Refusal) × TransitionsAnswers w.0 x × (s ≡ of_list.said x)
Answers (segments list) s =
    (w : Slice list) × (out : Buffer 4096) × (x : Result ℕ Refusal) × (left : List ℕ) × SegmentsAnswers w.0 out.0 x left
    × (s ≡ left_said (λ l. take (2 * first_of l) left) (of_segments.said x))
Answers (masks list) s =
    (w : Slice list) × (cut : Buffer 4096) × (out : Buffer 8192) × (x : Result Masks Refusal) × (between : List ℕ) × (left : List ℕ)
    × MatrixAnswers w.0 cut.0 out.0 x between left × (s ≡ left_said (λ l. take (product_of l) left) (of_masks.said x))
Answers (rows list targets conts) s =
    (a : RowArgs) × (a.list.now ≡ list) × (a.targets.now ≡ targets) × (a.conts.now ≡ conts) × (lent_by a ≡ stated)
    × (x : Result Rows Refusal) × (left : RowsLeft) × BuildAnswers a x left
    × (s ≡ left_said (λ l. take 128 left.ascii ++ take (first_of l) left.wide) (of_rows.said x))

-- an example holds of whatever its call answers
abbrev pub HoldsCalled : Example → Type 0
HoldsCalled (call says answer) = (s : Said) → Answers call s → s ≡ answer

abbrev pub RightCalled : List Example → Type 0
RightCalled [] = Unit {0}
RightCalled (x ∷ xs) = HoldsCalled x × RightCalled xs
