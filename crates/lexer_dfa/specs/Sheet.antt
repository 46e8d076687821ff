-- The ply sheet's examples (document 01, "Ply-sheet examples"): each is a call with what it is given, and what it says. Assumes nothing.
use Rattle.std.specs.Prelude.{ℕ, ◌*◌, ◌≡◌, List, [], ◌∷◌, ◌++◌, map, take, replicate, Ok, Err}
use Rattle.refusal.specs.Said.{Said, ok, no_by, no}
use Rattle.refusal.specs.Fixed.{tag, NONE, DEAD-STATE}
use Rattle.refusal.specs.Lists.{pick}
use Rattle.run_ranges.specs.declared.AsciiRange.{AsciiRange}
use Rattle.run_ranges.specs.Ranges.{range, in_ranges}
use Rattle.run_class.specs.Byte.{up_from}
use Rattle.run_shape.specs.declared.RunWords.{RunWords}
use Rattle.run_shape.specs.Shape.{Got, got_said}
use Rattle.run_shape.specs.Classify.{classified}
use Rattle.run_shape.specs.Words.{words_of_run}
use Rattle.run_shape.specs.Scan.{scanned_by}
use Rattle.buffer.specs.Over.{zeros}
use Rattle.room_decode.specs.Decode as codec
use Rattle.list_transitions.specs.Read as of_list
use Rattle.list_transitions.specs.Read.{Parsed, parse}
use Rattle.list_segments.specs.Answer as of-segments
use Rattle.list_segments.specs.Answer.{parse_for, segments_in}
use Rattle.list_masks.specs.Masks.{matrix}
use Rattle.list_masks.specs.Answer as of-masks
use Rattle.list_masks.specs.Answer.{parse_masks, masks_in}
use Rattle.row_build.specs.Answer as of-rows
use Rattle.row_build.specs.Answer.{Lent, parse_rows, ascii_in, wide_in}

-- a call, and what it is given
pub data Call : Type 0 where
  -- `classify`: the run of a row at a state, by its kind and its exits
  classify : (row : List ℕ) (state : ℕ) → Call
  -- `write_serialized`: the words of that run
  words : (row : List ℕ) (state : ℕ) → Call
  -- `scan_length`: how many bytes that run skips, and 1 where an exit was found, else 0
  scan : (row : List ℕ) (state : ℕ) (bytes : List ℕ) → Call
  -- `decode` into a room of so many numbers: how many modes, states and words the table has
  decode : (list : List ℕ) (room : ℕ) → Call
  -- `read_transitions`: how many transitions and intervals the bytes of a list have
  transitions : (list : List ℕ) → Call
  -- `char_segments`: the numbers of its segments, low, high, as they are left in the buffer
  segments : (list : List ℕ) → Call
  -- `segment_mask_matrix`: the words of its masks, as they are left in their buffer
  masks : (list : List ℕ) → Call
  -- `build_rows`: the 128 ascii targets and the numbers of the wide row, as they are left in their buffers
  rows : (list targets conts : List ℕ) → Call

-- the words of a run, as many as it has
abbrev pub word_list : RunWords → List ℕ
word_list w = take w.length (w.first ∷ w.second ∷ w.third ∷ [])

-- what is said of the run that classification gave, or the refusal that it gave
abbrev pub words_said : Got → Said
words_said (Ok r) = ok (word_list (words_of_run r))
words_said (Err r) = no_by r

-- what is left in front of a buffer: as many numbers as the answer's own numbers tell, or the refusal that was given
abbrev pub left_said : (List ℕ → List ℕ) → Said → Said
left_said f (ok l) = ok (f l)
left_said f (no_by r) = no_by r

-- the numbers of an answer
abbrev pub first_of : List ℕ → ℕ
first_of [] = 0
first_of (n ∷ l) = n

abbrev pub product_of : List ℕ → ℕ
product_of [] = 1
product_of (n ∷ l) = n * product_of l

abbrev pub segments_said : Parsed → Said
segments_said x = left_said (λ l. take (2 * first_of l) (segments_in 4096 x)) (of-segments.counted x)

abbrev pub masks_said : Parsed → Said
masks_said x = left_said (λ l. take (product_of l) (masks_in matrix 8192 x)) (of-masks.counted matrix x)

abbrev pub rows_said : List ℕ → List ℕ → Parsed → Said
rows_said targets conts x = left_said (λ l. take 128 (ascii_in 128 targets x) ++ take (first_of l) (wide_in 6144 targets x)) (of-rows.counted targets conts x)

-- the room that document 01 states for rows
abbrev pub stated : Lent
stated = record { segments = 4096; masks = 8192; distinct = 8192; ascii = 128; wide = 6144; escape = 6144 }

-- what a call says, by the definitions that the contracts cite
abbrev pub said_by : Call → Said
said_by (classify row state) = got_said (classified state row)
said_by (words row state) = words_said (classified state row)
said_by (scan row state bytes) = scanned_by (classified state row) bytes
said_by (decode list room) = codec.said (codec.decode_of list room)
said_by (transitions list) = of_list.counted (parse list)
said_by (segments list) = segments_said (parse_for 4096 list)
said_by (masks list) = masks_said (parse_masks 4096 8192 list)
said_by (rows list targets conts) = rows_said targets conts (parse_rows stated list targets conts)

-- an example: the call says this
infix 10 ◌says◌
pub data Example : Type 0 where
  ◌says◌ : Call → Said → Example

abbrev pub Holds : Example → Type 0
Holds (call says answer) = said_by call ≡ answer

-- every example of a list holds
abbrev pub Right : List Example → Type 0
Right [] = Unit {0}
Right (x ∷ xs) = Holds x × Right xs

-- a row of 128 targets: the state on the symbols of some ranges, and dead on all others
unfoldable pub row_on : List AsciiRange → ℕ → List ℕ
row_on looping state = map (λ symbol. pick (in_ranges looping symbol) state DEAD-STATE) (up_from 0 128)

-- the sheet's rows, of state 7
abbrev pub digits : List ℕ
digits = row_on (range 48 57 ∷ []) 7

abbrev pub all_but34 : List ℕ
all_but34 = row_on (range 0 33 ∷ range 35 127 ∷ []) 7

abbrev pub nowhere : List ℕ
nowhere = row_on [] 7

abbrev pub five_ranges : List ℕ
five_ranges = row_on (range 9 10 ∷ range 32 32 ∷ range 48 57 ∷ range 65 90 ∷ range 97 122 ∷ []) 7

-- the tag and eight 0 words
abbrev pub eight_zeros : List ℕ
eight_zeros = tag ∷ zeros 8

-- `tableread`'s table
abbrev pub small_table : List ℕ
small_table = tag ∷ 1 ∷ 0 ∷ 1 ∷ 0 ∷ 0 ∷ DEAD-STATE ∷ NONE ∷ 1 ∷ 1 ∷ 1 ∷ (zeros 64 ++ (1 ∷ 0 ∷ 0 ∷ 1 ∷ NONE ∷ 0 ∷ 0 ∷ []))

-- the sheet's lists of transitions, as bytes: sets {48..57} and {48, 97..122}; not {-5..3}; the empty not-set; ranges 100..200 and 201..300
abbrev pub two_sets : List ℕ
two_sets =
    (3 ∷ 8 ∷ 0 ∷ 48 ∷ 0 ∷ 0 ∷ 0 ∷ 57 ∷ 0 ∷ 0 ∷ 0 ∷ [])
    ++ (3 ∷ 16 ∷ 0 ∷ 48 ∷ 0 ∷ 0 ∷ 0 ∷ 48 ∷ 0 ∷ 0 ∷ 0 ∷ 97 ∷ 0 ∷ 0 ∷ 0 ∷ 122 ∷ 0 ∷ 0 ∷ 0 ∷ [])

abbrev pub not_set : List ℕ
not_set = 4 ∷ 8 ∷ 0 ∷ 251 ∷ 255 ∷ 255 ∷ 255 ∷ 3 ∷ 0 ∷ 0 ∷ 0 ∷ []

abbrev pub empty_not_set : List ℕ
empty_not_set = 4 ∷ 0 ∷ 0 ∷ []

abbrev pub two_ranges : List ℕ
two_ranges = (2 ∷ 8 ∷ 0 ∷ 100 ∷ 0 ∷ 0 ∷ 0 ∷ 200 ∷ 0 ∷ 0 ∷ 0 ∷ []) ++ (2 ∷ 8 ∷ 0 ∷ 201 ∷ 0 ∷ 0 ∷ 0 ∷ 44 ∷ 1 ∷ 0 ∷ 0 ∷ [])

-- the starred examples, and `tableread`'s
abbrev pub sheet : List Example
sheet =
    -- "Tag and eight 0 words: accepted. First eight only: 1 at 8. A further 0: 5 at 9. Empty: 1 at 0."
    (decode eight_zeros 16384 says ok (0 ∷ 0 ∷ 9 ∷ [])) ∷
    (decode (take 8 eight_zeros) 16384 says no 1 8) ∷
    (decode (eight_zeros ++ (0 ∷ [])) 16384 says no 5 9) ∷
    (decode [] 16384 says no 1 0) ∷
    -- "Row looping on 48..57 only: words 261, 14640, 0. "10 ply": 2, exit. "10": 2, no exit."
    (words digits 7 says ok (261 ∷ 14640 ∷ 0 ∷ [])) ∷
    (scan digits 7 (49 ∷ 48 ∷ 32 ∷ 112 ∷ 108 ∷ 121 ∷ []) says ok (2 ∷ 1 ∷ [])) ∷
    (scan digits 7 (49 ∷ 48 ∷ []) says ok (2 ∷ 0 ∷ [])) ∷
    -- "Loops on all but 34: word 8706; bytes 200, 65, 34: 2, exit."
    (words all_but34 7 says ok (8706 ∷ [])) ∷
    (scan all_but34 7 (200 ∷ 65 ∷ 34 ∷ []) says ok (2 ∷ 1 ∷ [])) ∷
    -- "Looping nowhere: none. Five ranges: none."
    (classify nowhere 7 says ok (0 ∷ [])) ∷
    (classify five_ranges 7 says ok (0 ∷ [])) ∷
    -- "Sets {48..57} and {48, 97..122}: segments 48..48, 49..57, 58..96, 97..122; masks 3, 1, 0, 2."
    (segments two_sets says ok (48 ∷ 48 ∷ 49 ∷ 57 ∷ 58 ∷ 96 ∷ 97 ∷ 122 ∷ [])) ∷
    (masks two_sets says ok (3 ∷ 1 ∷ 0 ∷ 2 ∷ [])) ∷
    -- "Not {-5..3}: 4..1114111. Empty not-set: all."
    (segments not_set says ok (4 ∷ 1114111 ∷ [])) ∷
    (segments empty_not_set says ok (0 ∷ 1114111 ∷ [])) ∷
    -- "100..200 and 201..300, both to 3: ascii 100..127, wide 128..300."
    (rows two_ranges (3 ∷ 3 ∷ []) (NONE ∷ NONE ∷ []) says ok (replicate 100 DEAD-STATE ++ (replicate 28 3 ++ (128 ∷ 300 ∷ 3 ∷ [])))) ∷
    -- "Given the tag; 1, 0; 1, 0, 0, 65535, NONE; 1, 1; 1 and 64 zeros; 1, 0; 0; 1, NONE, 0; 0, it prints the line `ok 1 1 82`."
    (decode small_table 16384 says ok (1 ∷ 1 ∷ 82 ∷ [])) ∷
    []
