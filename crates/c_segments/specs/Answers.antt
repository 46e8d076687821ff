-- The answer about segments in C: a number of 0 and the count, or the refusal's number and place. Assumes nothing.
use Rattle.std.specs.Prelude.{get_or}
use Rattle.refusal.specs.Said.{Said, ok, no_by}
use Rattle.c_segments.specs.declared.CSegments.{CSegments}

-- how many segments
abbrev pub segments_in_c : Said → CSegments
segments_in_c (ok l) = record { number = 0; item = 0; place = 0; segments = get_or l 0 0 }
segments_in_c (no_by r) = record { number = r.number; item = r.item; place = r.place; segments = 0 }
