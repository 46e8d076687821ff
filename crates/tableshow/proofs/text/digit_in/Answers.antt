-- By the digits that the definition makes.
use Rattle.tableshow.specs.Forms.{digit_in}
use Rattle.tableshow.proofs.Filling.{digits}
use Rattle.tableshow.proofs.text.digit_in.Goals as goal

pub returns-in-129 : goal.returns-in-129
unfolding digit_in
returns-in-129 c = search digits

pub returns-in-130 : goal.returns-in-130
unfolding digit_in
returns-in-130 c = search digits

pub returns-in-131 : goal.returns-in-131
unfolding digit_in
returns-in-131 c = search digits

pub returns-in-132 : goal.returns-in-132
unfolding digit_in
returns-in-132 c = search digits

pub returns-in-133 : goal.returns-in-133
unfolding digit_in
returns-in-133 c = search digits

pub returns-in-134 : goal.returns-in-134
unfolding digit_in
returns-in-134 c = search digits

pub returns-in-135 : goal.returns-in-135
unfolding digit_in
returns-in-135 c = search digits

pub returns-in_default : goal.returns-in_default
unfolding digit_in
returns-in_default c = search digits
