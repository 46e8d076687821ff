-- The test is made of the words that were read.
use Rattle.rule_rows.proofs.Tests.{testing}
use Rattle.rule_rows.proofs.follows.Goals as goal

pub returns : goal.returns
returns c = search testing
