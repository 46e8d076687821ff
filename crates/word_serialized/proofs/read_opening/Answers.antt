-- Each answer is the case that the words on the way say.
use mathlib.Core.Path.{◌≡◌, ◌∙◌}
use borrow.Author.Rules.{rules}
use Rattle.std.specs.Prelude.{Err}
use Rattle.word_serialized.specs.Reader.{word_at, past_word}
use Rattle.word_serialized.proofs.Laws.{tag_lacking, tag_other, counts}
use Rattle.word_serialized.proofs.read_opening.Goals as goal

pub returns-in_err-tag : goal.returns-in_err-tag
returns-in_err-tag c =
    let g : c.next.result ≡ word_at c.args.data.now 0 = search rules in
    let q : c.from_residual.result ≡ Err c.in_err-tag.field-0.0 = search rules in
    q ∙ tag_lacking _ g c.in_err-tag.ensures.ok_part c.in_err-tag.ensures.value

pub returns-then-tag-ne-SERIALIZED_TAG : goal.returns-then-tag-ne-SERIALIZED_TAG
returns-then-tag-ne-SERIALIZED_TAG c =
    let g : c.next.result ≡ word_at c.args.data.now 0 = search rules in
    tag_other _ g c.in_ok-tag.ensures.ok_part c.if-tag-ne-SERIALIZED_TAG.true

pub returns : goal.returns
returns c =
    let g : c.next.result ≡ word_at c.args.data.now 0 = search rules in
    let d : c.next-2.result ≡ word_at c.args.data.now (past_word c.args.data.now 0) = search rules in
    counts _ g c.in_ok-tag.ensures.ok_part c.if-tag-ne-SERIALIZED_TAG.false d c.ok_or-2.ensures.value
