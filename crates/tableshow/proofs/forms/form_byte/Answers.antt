-- The byte is read from the bytes that the definition names.
use Rattle.tableshow.specs.Joined.{joined}
use Rattle.tableshow.specs.Forms.{forms}
use Rattle.tableshow.proofs.Parts.{places}
use Rattle.tableshow.proofs.forms.form_byte.Goals as goal

pub returns-then-at-lt1514 : goal.returns-then-at-lt1514
unfolding forms joined
returns-then-at-lt1514 c = search places

pub returns : goal.returns
unfolding forms joined
returns c = search places
