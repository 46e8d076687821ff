-- The rows of a transition list (document 01, "Transitions, segments, rows"). ts is the list, `targets` and `conts` are what the caller gave each of its
-- distinct masks, m is a mask and p a point. Assumes nothing.
use Rattle.std.specs.Prelude.{ℕ, List, eqb, get_or}
use Rattle.refusal.specs.Lists.{pick}
use Rattle.refusal.specs.Fixed.{NONE, DEAD-STATE}
use Rattle.list_transitions.specs.Transition.{Transition}
use Rattle.list_segments.specs.Segments.{cuts_of}
use Rattle.list_masks.specs.Masks.{mask_of, is_zero, index, distinct_of}
use Rattle.law_rows.specs.Row.{Row, row_over, join, ascii_part, wide_part}

-- "the caller gives each a 16-bit target and a continuation or NONE": what was given a mask; the empty mask was given none, and has `other`
unfoldable pub given : ℕ → List (List ℕ) → List ℕ → List ℕ → ℕ
given other masks goals m = pick (is_zero m) other (get_or goals (index masks m) other)

abbrev pub target_of : List Transition → List ℕ → List ℕ → ℕ
target_of ts targets m = given DEAD-STATE (distinct_of ts) targets m

-- "and none where the target is dead"
abbrev pub cont_of : List Transition → List ℕ → List ℕ → List ℕ → ℕ
cont_of ts targets conts m = pick (eqb (target_of ts targets m) DEAD-STATE) NONE (given NONE (distinct_of ts) conts m)

-- "Dead segments are left out of rows": each segment with what v gives its mask, without those that are given d
unfoldable pub row_of : ℕ → (List ℕ → ℕ) → List Transition → Row
row_of d v ts = row_over d (λ p. v (mask_of ts p)) (cuts_of ts)

abbrev pub target_row : List Transition → List ℕ → Row
target_row ts targets = row_of DEAD-STATE (target_of ts targets) ts

-- "otherwise a continuation goes to the escape row"
abbrev pub cont_row : List Transition → List ℕ → List ℕ → Row
cont_row ts targets conts = row_of NONE (cont_of ts targets conts) ts

-- "`split_rows` parts at 128 and joins touching wide ranges of one target"
abbrev pub ascii_of : List Transition → List ℕ → List ℕ
ascii_of ts targets = ascii_part (target_row ts targets)

abbrev pub wide_of : List Transition → List ℕ → Row
wide_of ts targets = wide_part (target_row ts targets)

-- "`merge_escape_ranges` joins on continuation"
abbrev pub escape_of : List Transition → List ℕ → List ℕ → Row
escape_of ts targets conts = join (cont_row ts targets conts)
