-- A row past the end lists nothing; else its ranges are walked.
use borrow.Author.Rules.{rules}
use Rattle.rule_words.specs.Rules.{present}
use Rattle.rule_rows.proofs.Tests.{ending, escape_tested}
use Rattle.rule_rows.proofs.escape_row_is_valid.Goals as goal

pub returns-then-words-at : goal.returns-then-words-at
returns-then-words-at c = search ending

pub returns : goal.returns
returns c = escape_tested _ _ _ (c.ranges_are_good-ranges.ensures (present c.args.continuations) (λ x b h p. search rules)) c.word_at-count.ensures c.none_or-2.ensures
