-- Each form is the text that the definition chooses.
use Rattle.tableshow.proofs.Filling.{points}
use Rattle.tableshow.proofs.text.point_form.Goals as goal

pub returns-then-x-lt128 : goal.returns-then-x-lt128
returns-then-x-lt128 c = search points

pub returns-then-front-lt1 : goal.returns-then-front-lt1
returns-then-front-lt1 c = search points

pub returns-then-front-lt16 : goal.returns-then-front-lt16
returns-then-front-lt16 c = search points

pub returns-then-front-lt256 : goal.returns-then-front-lt256
returns-then-front-lt256 c = search points

pub returns : goal.returns
returns c = search points
