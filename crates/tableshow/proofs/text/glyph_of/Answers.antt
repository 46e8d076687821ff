-- By the tests that the definition makes.
use Rattle.tableshow.proofs.Filling.{glyphs}
use Rattle.tableshow.proofs.text.glyph_of.Goals as goal

pub returns-then-byte-lt128 : goal.returns-then-byte-lt128
returns-then-byte-lt128 c = search glyphs

pub returns-then-byte-eq128 : goal.returns-then-byte-eq128
returns-then-byte-eq128 c = search glyphs

pub returns : goal.returns
returns c = search glyphs
