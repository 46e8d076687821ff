-- It is read as its words.
use native.Mathlib.Omega.{arith}
use Rattle.room_fill.proofs.Records.{accept_is, accept_read}
use Rattle.room_fill.proofs.renew.AcceptRenewed.put.Goals as goal

pub offset_bounds-words-at : goal.offset_bounds-words-at
offset_bounds-words-at c = let r = accept_read _ _ _ c.requires.read in omega arith

pub slice_bounds-put_flagged-count : goal.slice_bounds-put_flagged-count
slice_bounds-put_flagged-count c = let r = accept_read _ _ _ c.requires.read in omega arith

pub slice_bounds-put_flagged-start : goal.slice_bounds-put_flagged-start
slice_bounds-put_flagged-start c = let r = accept_read _ _ _ c.requires.read in omega arith

pub slice_bounds-put_flagged-end : goal.slice_bounds-put_flagged-end
slice_bounds-put_flagged-end c = let r = accept_read _ _ _ c.requires.read in omega arith

pub put_flagged-requires : goal.put_flagged-requires
put_flagged-requires c = let r = accept_read _ _ _ c.requires.read in record { within = r.flags; fits = omega arith }

pub returns : goal.returns
returns c = rw (accept_is _ _ _ c.requires.read) at c.put_flagged.ensures
