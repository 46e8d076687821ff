-- What the row call does before there are rows: buffers that are cleared, and a list whose masks have their places, unless it is refused. Assumes nothing.
use Rattle.std.specs.Prelude.{ℕ, ◌≤◌, ◌≡◌, Bool, List, length, Result, Ok}
use Rattle.refusal.specs.declared.Refusal.{Refusal}
use Rattle.buffer.specs.Over.{zeros}
use Rattle.list_transitions.specs.Read.{Parsed, accepted}
use Rattle.list_segments.specs.Segments.{cuts_of, starts}
use Rattle.list_segments.specs.Answer.{segments_in}
use Rattle.list_distinct.specs.declared.Places.{Places}
use Rattle.list_masks.specs.Masks.{matrix, distinct_of}
use Rattle.list_masks.specs.Answer.{masks_in}
use Rattle.list_distinct.specs.Answer.{told, parse_places, found_in, placed_in}
use Rattle.row_build.specs.Answer.{too_short, with_rows}
use Rattle.row_build.specs.Aimed.{Ready}

-- three buffers, as long as before, hold zeros
pub record Zeroed (a a' b b' c c' : List ℕ) : Type 0 where
  pub first : a' ≡ zeros (length a)
  pub second : b' ≡ zeros (length b)
  pub third : c' ≡ zeros (length c)

-- .. those for rows, and the answer is whether one of them is too short
pub record Cleared (short : Bool) (ascii ascii' wide wide' escape escape' : List ℕ) : Type 0 where
  pub says : short ≡ too_short (length ascii) (length wide) (length escape)
  pub empty : Zeroed ascii ascii' wide wide' escape escape'

-- the segments, masks and distinct masks of the list y stand, unless it is refused or no rows can be made for so many targets and continuations, and then all
-- three are zeros; and the places of its masks stand. No list has more than 2,047 segments
pub record Asked (t c : ℕ) (short : Bool) (r : Result Places Refusal) (s : ℕ) (segments : List ℕ) (n : ℕ) (masks : List ℕ) (d : ℕ) (distinct : List ℕ) (p : ℕ)
    (places : List ℕ) (y : Parsed) : Type 0 where
  pub says : told r ≡ found_in (with_rows t c short y)
  pub low_high : segments ≡ segments_in s (with_rows t c short y)
  pub each : masks ≡ masks_in matrix n (with_rows t c short y)
  pub once : distinct ≡ masks_in distinct_of d (with_rows t c short y)
  pub leaves : places ≡ placed_in p y
  pub few : length (starts (cuts_of (accepted y))) ≤ 2047

-- where the list has its places, rows can be made
pub record Fillable (r : Result Places Refusal) (segments places ascii wide escape : List ℕ) : Type 0 where
  pub found : (f : Places) → r ≡ Ok f → Ready segments places f.segments ascii wide escape

-- all of it: the buffers for rows are cleared, and the list has its places, unless it is refused
pub record Prepared (w : List ℕ) (t c : ℕ) (r : Result Places Refusal) (segments segments' masks masks' distinct distinct' : List ℕ) (p : ℕ)
    (places ascii ascii' wide wide' escape escape' : List ℕ) : Type 0 where
  pub short : Bool
  pub cleared : Cleared short ascii ascii' wide wide' escape escape'
  pub asked : Asked t c short r (length segments) segments' (length masks) masks' (length distinct) distinct' p places
      (parse_places (length segments) (length masks) (length distinct) p w)
  pub next : Fillable r segments' places ascii' wide' escape'
