-- The escape rows and the continuations are written one behind the other.
use native.Mathlib.Omega.{arith}
use Rattle.word_layout.proofs.Found.{order, continuations_there}
use Rattle.room_fill.specs.Room.{copied}
use Rattle.room_fill.proofs.Parts.{first_room, two-room, two_put}
use Rattle.room_fill.proofs.table.Table.put_later_words.Goals as goal

pub offset_bounds-self-s : goal.offset_bounds-self-s
offset_bounds-self-s c = let i = (order _ c.args.self.now.found).continuations in let j = continuations_there _ c.args.self.now.found in omega arith

pub slice_bounds-copy_words-count : goal.slice_bounds-copy_words-count
slice_bounds-copy_words-count c = let i = (order _ c.args.self.now.found).continuations in let j = continuations_there _ c.args.self.now.found in omega arith

pub slice_bounds-copy_words-start : goal.slice_bounds-copy_words-start
slice_bounds-copy_words-start c = let i = (order _ c.args.self.now.found).continuations in let j = continuations_there _ c.args.self.now.found in omega arith

pub slice_bounds-copy_words-end : goal.slice_bounds-copy_words-end
slice_bounds-copy_words-end c = let i = continuations_there _ c.args.self.now.found in omega arith

pub copy_words-a-requires : goal.copy_words-a-requires
unfolding copied
copy_words-a-requires c = first_room _ _ _ _ c.requires

pub renew-requires : goal.renew-requires
unfolding copied
renew-requires c = record { within = continuations_there _ c.args.self.now.found; fits = two-room _ _ _ _ c.copy_words-a.ensures c.requires }

pub returns : goal.returns
unfolding copied
returns c = two_put _ _ _ _ c.renew.ensures c.copy_words-a.ensures c.requires
