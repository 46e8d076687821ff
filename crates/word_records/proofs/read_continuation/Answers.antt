-- The contexts are read, or refused; the configs stand behind them.
use Rattle.word_reader.proofs.Laws.{joining, joins}
use Rattle.word_records.proofs.read_continuation.Goals as goal

pub returns-in_err-configs : goal.returns-in_err-configs
returns-in_err-configs c = search joining

pub returns : goal.returns
returns c = joins _ _ _ _ c.read_section.ensures c.in_ok-configs.was c.read_section-2.ensures
