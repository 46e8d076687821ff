-- Each form is the text that the definition chooses.
use Rattle.tableshow.specs.Joined.{joined}
use Rattle.tableshow.specs.Forms.{drawn, filled, forms, glyph_of, digit_in}
use Rattle.tableshow.proofs.Filling.{choices}
use Rattle.tableshow.proofs.text.blank_form.Goals as goal

pub returns-in-32 : goal.returns-in-32
unfolding drawn filled forms joined glyph_of digit_in
returns-in-32 c = search choices

pub returns-in-9 : goal.returns-in-9
unfolding drawn filled forms joined glyph_of digit_in
returns-in-9 c = search choices

pub returns-in-10 : goal.returns-in-10
unfolding drawn filled forms joined glyph_of digit_in
returns-in-10 c = search choices

pub returns-in-13 : goal.returns-in-13
unfolding drawn filled forms joined glyph_of digit_in
returns-in-13 c = search choices

pub returns-in_default : goal.returns-in_default
unfolding drawn filled forms joined glyph_of digit_in
returns-in_default c = search choices
