-- Past the end nothing is listed; else the configs stand behind the contexts.
use Rattle.rule_contexts.proofs.Tests.{testing, ending, flags-asked}
use Rattle.rule_contexts.proofs.continuation_is_plain.Goals as goal

pub returns-then-words-at : goal.returns-then-words-at
returns-then-words-at c = search ending

pub returns : goal.returns
returns c = flags-asked _ _ (c.configs_pass.ensures _ (λ at b h p. search testing))
