-- The test is made of the words that were read.
use Rattle.rule_contexts.proofs.Tests.{testing}
use Rattle.rule_contexts.proofs.refers_below.Goals as goal

pub returns : goal.returns
returns c = search testing
