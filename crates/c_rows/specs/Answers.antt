-- The answer of row building in C: a number of 0 and how many numbers the rows have, or the refusal's number and place; and what is left in the six
-- buffers, of the lengths l. x is the list read, `targets` and `conts` are what its masks were given. Assumes nothing.
use Rattle.std.specs.Prelude.{ℕ, ◌≡◌, List, get_or}
use Rattle.refusal.specs.Said.{Said, ok, no_by}
use Rattle.list_transitions.specs.Read.{Parsed}
use Rattle.list_segments.specs.Answer.{segments_in}
use Rattle.list_masks.specs.Masks.{matrix, distinct_of}
use Rattle.list_masks.specs.Answer.{masks_in}
use Rattle.row_build.specs.Answer.{Lent, counted, ascii_in, wide_in, escape_in}
use Rattle.c_rows.specs.declared.CRows.{CRows}

-- how many numbers the wide row and the escape row have
abbrev pub rows_in_c : Said → CRows
rows_in_c (ok l) = record { number = 0; item = 0; place = 0; wide = get_or l 0 0; escape = get_or l 1 0 }
rows_in_c (no_by r) = record { number = r.number; item = r.item; place = r.place; wide = 0; escape = 0 }

-- the answer says it, and the six buffers hold it
pub record BuildsInC (r : CRows) (l : Lent) (segments masks distinct ascii wide escape : List ℕ) (targets conts : List ℕ) (x : Parsed) : Type 0 where
  pub says : r ≡ rows_in_c (counted targets conts x)
  pub low_high : segments ≡ segments_in l.segments x
  pub each : masks ≡ masks_in matrix l.masks x
  pub once : distinct ≡ masks_in distinct_of l.distinct x
  pub narrow : ascii ≡ ascii_in l.ascii targets x
  pub broad : wide ≡ wide_in l.wide targets x
  pub escapes : escape ≡ escape_in l.escape targets conts x
