-- Its contexts are copied, and its configs written behind them.
use native.Mathlib.Omega.{arith}
use Rattle.room_fill.proofs.Records.{configs_there, contexts_fit, configs_fit, continuation_put}
use Rattle.room_fill.proofs.renew.ContinuationRenewed.put.Goals as goal

pub offset_bounds-words-at : goal.offset_bounds-words-at
offset_bounds-words-at c = let i = configs_there _ _ c.requires.read in omega arith

pub bounds-words-at : goal.bounds-words-at
bounds-words-at c = let i = configs_there _ _ c.requires.read in omega arith

pub overflow_add-configs-2 : goal.overflow_add-configs-2
overflow_add-configs-2 c = let i = configs_there _ _ c.requires.read in omega arith

pub offset_bounds-words-at-2 : goal.offset_bounds-words-at-2
offset_bounds-words-at-2 c = let i = configs_there _ _ c.requires.read in omega arith

pub slice_bounds-copy_words-end : goal.slice_bounds-copy_words-end
slice_bounds-copy_words-end c = let i = configs_there _ _ c.requires.read in omega arith

pub copy_words-m-requires : goal.copy_words-m-requires
copy_words-m-requires c = contexts_fit _ _ c.requires.read _ _ c.requires.fits

pub renew-requires : goal.renew-requires
renew-requires c = record { within = configs_there _ _ c.requires.read; fits = configs_fit _ _ c.requires.read _ _ c.requires.fits c.copy_words-m.ensures }

pub returns : goal.returns
returns c = continuation_put _ _ c.requires.read _ _ c.requires.fits c.copy_words-m.ensures c.renew.ensures
