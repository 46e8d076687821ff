-- The words of the row that are there are judged, and those past the end are 0.
use Prim.Native.Nat.{◌-◌}
use native.Mathlib.Omega.{arith}
use mathlib.Core.Path.{refl}
use lib.ListN.{length}
use Rattle.rule_words.specs.Rules.{both_good}
use Rattle.rule_rows.proofs.Tests.{row_words, row-short, row_slice}
use Rattle.rule_rows.proofs.ascii_row_is_good.Goals as goal

pub returns-then-words-at : goal.returns-then-words-at
returns-then-words-at c = search row_words

pub returns-then-words-at-lt-ROW_WORDS : goal.returns-then-words-at-lt-ROW_WORDS
returns-then-words-at-lt-ROW_WORDS c =
    row-short (both_good c.args.states) c.args.words.now _ c.if-words-at.false c.if-words-at-lt-ROW_WORDS.true
    (row_slice (both_good c.args.states) c.args.words.now (length c.args.words.now - c.args.at) _ refl (omega (arith, c.if-words-at.false)) c.words_are_good.ensures)
    c.both_good-then-words-at-lt-ROW_WORDS.ensures

pub returns : goal.returns
returns c = row_slice (both_good c.args.states) c.args.words.now 64 _ (omega arith) (omega (arith, c.if-words-at.false, c.if-words-at-lt-ROW_WORDS.false)) c.words_are_good-2.ensures
