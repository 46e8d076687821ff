use Rattle.word_reader.proofs.Laws.{loop, turn}
use Rattle.word_reader.proofs.read_many.Goals as goal

pub returns-in_err-here : goal.returns-in_err-here
returns-in_err-here g c = search loop

pub loop-preserved : goal.loop-preserved
loop-preserved g c = turn _ _ _ c.loop-test.true c.read.ensures c.in_ok-here.was c.loop.invariant

pub returns : goal.returns
returns g c = search loop
