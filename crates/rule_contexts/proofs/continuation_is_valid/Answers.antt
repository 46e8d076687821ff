-- Past the end nothing is listed; else the configs stand behind the contexts.
use borrow.Author.Rules.{rules}
use Rattle.rule_contexts.proofs.Tests.{testing, ending, continuation_tested}
use Rattle.rule_contexts.proofs.continuation_is_valid.Goals as goal

pub returns-then-words-at : goal.returns-then-words-at
returns-then-words-at c = search ending

pub returns-then-not-contexts_refer_below : goal.returns-then-not-contexts_refer_below
returns-then-not-contexts_refer_below c = search ending

pub returns : goal.returns
returns c = continuation_tested _ _ c.contexts_refer_below.ensures (search rules) (c.configs_pass.ensures _ (λ at b h p. search testing))
