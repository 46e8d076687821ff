-- Each form is the text that the definition chooses.
use Rattle.tableshow.specs.Joined.{joined}
use Rattle.tableshow.specs.Forms.{drawn, filled, forms, glyph_of, digit_in}
use Rattle.tableshow.proofs.Filling.{points}
use Rattle.tableshow.proofs.text.symbol_form.Goals as goal

pub returns-then-x-lt33 : goal.returns-then-x-lt33
unfolding drawn filled forms joined glyph_of digit_in
returns-then-x-lt33 c = search points

pub returns-then-x-lt127 : goal.returns-then-x-lt127
unfolding drawn filled forms joined glyph_of digit_in
returns-then-x-lt127 c = search points

pub returns : goal.returns
unfolding drawn filled forms joined glyph_of digit_in
returns c = search points
