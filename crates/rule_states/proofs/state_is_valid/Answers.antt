-- The test is made of the words that were read.
use Rattle.rule_states.proofs.Tests.{testing}
use Rattle.rule_states.proofs.state_is_valid.Goals as goal

pub returns : goal.returns
returns c = search testing
