-- What a byte stands for is written, by the tests that the definition makes.
use Rattle.tableshow.proofs.Filling.{pieces}
use Rattle.tableshow.proofs.text.put_piece.Goals as goal

pub returns-then-byte-lt128 : goal.returns-then-byte-lt128
returns-then-byte-lt128 c = search pieces

pub returns-then-byte-lt131 : goal.returns-then-byte-lt131
returns-then-byte-lt131 c = search pieces

pub returns-then-byte-lt134 : goal.returns-then-byte-lt134
returns-then-byte-lt134 c = search pieces

pub returns : goal.returns
returns c = search pieces
