-- What the row call answers, and leaves in the six lent buffers (document 01, "Transitions, segments, rows"). w is the list's bytes, x the list read,
-- `targets` and `conts` are what the caller gave each of its distinct masks. Assumes nothing.
use Rattle.std.specs.Prelude.{ℕ, ◌≡◌, Bool, ◌||◌, Option, Some, None, Result, Ok, Err, List, [], ◌∷◌, length, ltb}
use Rattle.refusal.specs.declared.Refusal.{Refusal}
use Rattle.refusal.specs.Said.{Said, ok, no_by, no}
use Rattle.buffer.specs.Over.{zeros, padded}
use Rattle.list_transitions.specs.Read.{Parsed, parsed, refused}
use Rattle.list_segments.specs.Answer.{segments_in}
use Rattle.list_masks.specs.Masks.{matrix, distinct_of}
use Rattle.list_masks.specs.Answer.{parse_distinct, masks_in}
use Rattle.law_rows.specs.Row.{numbers}
use Rattle.law_rows.specs.Build.{ascii_of, wide_of, escape_of}
use Rattle.row_goals.specs.Goals.{differs, refusal_of}
use Rattle.row_build.specs.declared.Rows.{Rows}

-- how many numbers the wide row and the escape row take
abbrev pub built : ℕ → ℕ → Result Rows Refusal
built wide escape = Ok (record { wide = wide; escape = escape })

-- .. or a refusal
abbrev pub said : Result Rows Refusal → Said
said (Ok rows) = ok (rows.wide ∷ rows.escape ∷ [])
said (Err r) = no_by r

-- how many numbers each lent buffer has
pub record Lent : Type 0 where
  pub segments : ℕ
  pub masks : ℕ
  pub distinct : ℕ
  pub ascii : ℕ
  pub wide : ℕ
  pub escape : ℕ

abbrev pub lent : List ℕ → List ℕ → List ℕ → List ℕ → List ℕ → List ℕ → Lent
lent segments masks distinct ascii wide escape =
    record { segments = length segments; masks = length masks; distinct = length distinct; ascii = length ascii; wide = length wide; escape = length escape }

-- "128 ascii targets, 3 numbers per possible range (6,144 each for wide and escape)": how many numbers the buffers for rows have
abbrev pub too_short : ℕ → ℕ → ℕ → Bool
too_short ascii wide escape = ltb ascii 128 || ltb wide 6144 || ltb escape 6144

-- a list that a number refuses, if there is one
abbrev pub refused_by : Option ℕ → Parsed → Parsed
refused_by None x = x
refused_by (Some n) x = refused n 0

-- behind the records: TARGETS for so many targets and continuations, ROOM for the rows
unfoldable pub with_rows : ℕ → ℕ → Bool → Parsed → Parsed
with_rows t c short (parsed ts) = refused_by (refusal_of (differs (length (distinct_of ts)) t c) short) (parsed ts)
with_rows t c short (refused k p) = refused k p

-- "A row call: ROOM for the buffers above, the records, TARGETS, ROOM for these."
abbrev pub parse_rows : Lent → List ℕ → List ℕ → List ℕ → Parsed
parse_rows l w targets conts =
    with_rows (length targets) (length conts) (too_short l.ascii l.wide l.escape) (parse_distinct l.segments l.masks l.distinct w)

-- the numbers of both rows, or the refusal
unfoldable pub counted : List ℕ → List ℕ → Parsed → Said
counted targets conts (parsed ts) =
    ok (length (numbers (wide_of ts targets)) ∷ length (numbers (escape_of ts targets conts)) ∷ [])
counted targets conts (refused k p) = no k p

-- "Refused: all outputs zero. Accepted: outputs past the answer's length zero."
unfoldable pub ascii_in : ℕ → List ℕ → Parsed → List ℕ
ascii_in n targets (parsed ts) = padded n (ascii_of ts targets)
ascii_in n targets (refused k p) = zeros n

unfoldable pub wide_in : ℕ → List ℕ → Parsed → List ℕ
wide_in n targets (parsed ts) = padded n (numbers (wide_of ts targets))
wide_in n targets (refused k p) = zeros n

unfoldable pub escape_in : ℕ → List ℕ → List ℕ → Parsed → List ℕ
escape_in n targets conts (parsed ts) = padded n (numbers (escape_of ts targets conts))
escape_in n targets conts (refused k p) = zeros n

-- the answer says it, and the six buffers hold it
pub record Builds (r : Result Rows Refusal) (l : Lent) (segments masks distinct ascii wide escape : List ℕ) (targets conts : List ℕ) (x : Parsed) : Type 0 where
  pub says : said r ≡ counted targets conts x
  pub low_high : segments ≡ segments_in l.segments x
  pub each : masks ≡ masks_in matrix l.masks x
  pub once : distinct ≡ masks_in distinct_of l.distinct x
  pub narrow : ascii ≡ ascii_in l.ascii targets x
  pub broad : wide ≡ wide_in l.wide targets x
  pub escapes : escape ≡ escape_in l.escape targets conts x
