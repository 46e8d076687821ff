-- The words before the accepts, the accepts and the words behind them are written one behind the other.
use native.Mathlib.Omega.{arith}
use lib.ListN.{length-take}
use Rattle.word_layout.proofs.Found.{accepts_there}
use Rattle.room_fill.specs.Room.{copied}
use Rattle.room_fill.proofs.Parts.{first_room, middle_room, three_room, three_put}
use Rattle.room_fill.proofs.table.Table.put_words.Goals as goal

pub slice_bounds-copy_words-end : goal.slice_bounds-copy_words-end
slice_bounds-copy_words-end c = let i = accepts_there _ c.args.self.now.found in omega (arith, length-take c.args.self.now.sections.accepts c.args.self.now.words.now)

pub copy_words-a-requires : goal.copy_words-a-requires
unfolding copied
copy_words-a-requires c = first_room _ _ _ _ c.requires

pub renew-b-requires : goal.renew-b-requires
unfolding copied
renew-b-requires c = record { within = accepts_there _ c.args.self.now.found; fits = middle_room _ _ _ _ _ c.copy_words-a.ensures c.requires }

pub put_later_words-requires : goal.put_later_words-requires
unfolding copied
put_later_words-requires c = three_room _ _ _ _ _ c.renew-b.ensures c.copy_words-a.ensures c.requires

pub returns : goal.returns
unfolding copied
returns c = three_put _ _ _ _ _ c.put_later_words.ensures c.renew-b.ensures c.copy_words-a.ensures c.requires
