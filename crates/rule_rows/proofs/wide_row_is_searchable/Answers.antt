-- A row past the end lists nothing; else its ranges are walked.
use borrow.Author.Rules.{rules}
use Rattle.rule_words.specs.Rules.{good}
use Rattle.rule_rows.proofs.Tests.{ending, wide_tested}
use Rattle.rule_rows.proofs.wide_row_is_searchable.Goals as goal

pub returns-then-words-at : goal.returns-then-words-at
returns-then-words-at c = search ending

pub returns : goal.returns
returns c = wide_tested _ _ _ (c.ranges_are_good.ensures (good c.args.states) (λ x b h p. search rules))
