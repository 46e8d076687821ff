-- How much room lists take (document 01): "segments 4,096 numbers, masks 8,192 64-bit words, distinct masks the same"; "3 numbers per possible range (6,144
-- each for wide and escape)". w is a list's bytes. Assumes nothing.
use Rattle.std.specs.Prelude.{ℕ, ◌≤◌, List, length}
use Rattle.list_segments.specs.Segments as cuts
use Rattle.list_masks.specs.Masks.{matrix, flat, distinct_of}
use Rattle.law_rows.specs.Row.{numbers}
use Rattle.law_rows.specs.Build.{wide_of, escape_of}
use Rattle.lexer_dfa.specs.Demand3.{list_of, RowArgs}

-- how many numbers an accepted list takes in each buffer, with any targets and continuations: 1,024 intervals have 2,048 ends at most, so 2,047 segments, of
-- two numbers each; the mask of one has four words at most; and a row has no more ranges than there are segments
pub record Fits (w targets conts : List ℕ) : Type 0 where
  pub segments : length (cuts.segments (cuts.cuts_of (list_of w))) ≤ 4094
  pub masks : length (flat (matrix (list_of w))) ≤ 8188
  pub distinct : length (flat (distinct_of (list_of w))) ≤ 8188
  pub wide : length (numbers (wide_of (list_of w) targets)) ≤ 6141
  pub escape : length (numbers (escape_of (list_of w) targets conts)) ≤ 6141

-- a row call is lent the room that document 01 states
pub record Roomy (a : RowArgs) : Type 0 where
  pub segments_room : 4096 ≤ length a.segments.now
  pub masks_room : 8192 ≤ length a.masks.now
  pub distinct_room : 8192 ≤ length a.distinct.now
  pub ascii_room : 128 ≤ length a.ascii.now
  pub wide_room : 6144 ≤ length a.wide.now
  pub escape_room : 6144 ≤ length a.escape.now
