use native.Mathlib.Omega.{arith}
use Rattle.list_masks.proofs.Words.{words, word_value, word_first}
use Rattle.list_masks.proofs.+word_of.Goals as goal

pub returns-then-n-eq0 : goal.returns-then-n-eq0
returns-then-n-eq0 t c = search words

pub record_at-rec-requires : goal.record_at-rec-requires
record_at-rec-requires t c = word_first _ _ _ c.requires.sound c.if-n-eq0.false

pub overflow_add-at : goal.overflow_add-at
overflow_add-at t c = omega (arith, word_value _ _ _ c.requires.sound c.if-n-eq0.false c.record_at-rec.ensures.size)

pub overflow_add-at-2 : goal.overflow_add-at-2
overflow_add-at-2 t c = omega (arith, word_value _ _ _ c.requires.sound c.if-n-eq0.false c.record_at-rec.ensures.size)

pub word_of-more-requires : goal.word_of-more-requires
word_of-more-requires t c = search words

pub overflow_mul-result : goal.overflow_mul-result
overflow_mul-result t c = search words

pub overflow_add-result : goal.overflow_add-result
overflow_add-result t c = search words

pub returns : goal.returns
returns t c = search words
