-- Each contract determines the answer, the part that is handed back, and what is left in a buffer that is lent, since it is an equation for each. Not so
-- that of `read_full`: what an input gives is no argument. Assumes nothing.
use Rattle.std.proofs.Common.{◌≡◌, sym, ◌∙◌}
use Rattle.replay_io.proofs.read.byte.Reads as byte
use Rattle.replay_io.proofs.read.after.Reads as after
use Rattle.replay_io.proofs.read.part.Reads as part
use Rattle.replay_io.proofs.read.half.Reads as half
use Rattle.replay_io.proofs.read.word.Reads as word
use Rattle.replay_io.proofs.read.long.Reads as long
use Rattle.replay_io.proofs.read.small.Reads as small
use Rattle.replay_io.proofs.read.size.Reads as size
use Rattle.replay_io.proofs.read.put_halves.Reads as put-halves
use Rattle.replay_io.proofs.read.put_words.Reads as put-words
use Rattle.replay_io.proofs.check.of.Reads as of
use Rattle.replay_io.proofs.check.short.Reads as short
use Rattle.replay_io.proofs.tally.count.Reads as count
use Rattle.replay_io.proofs.tally.told.Reads as told
use Rattle.law_unique.specs.Unique.{Determines, DeterminesPart, DeterminesBoth}

pub byte_unique : Determines byte.Learnt
byte_unique κs a x y e f p q = p ∙ sym q

pub after_unique : DeterminesPart after.Learnt
after_unique κs a x y e f p q = (p.itself ∙ sym q.itself, p.bytes ∙ sym q.bytes)

pub part_unique : DeterminesPart part.Learnt
part_unique κs a x y e f p q = (p.itself ∙ sym q.itself, p.bytes ∙ sym q.bytes)

pub half_unique : Determines half.Learnt
half_unique κs a x y e f p q = p ∙ sym q

pub word_unique : Determines word.Learnt
word_unique κs a x y e f p q = p ∙ sym q

pub long_unique : Determines long.Learnt
long_unique κs a x y e f p q = p ∙ sym q

pub small_unique : Determines small.Learnt
small_unique κs a x y e f p q = p.1 ∙ sym q.1

pub size_unique : Determines size.Learnt
size_unique κs a x y e f p q = p.1 ∙ sym q.1

pub put_halves_unique : DeterminesBoth (λ κs e. e.1.0) put-halves.Learnt
put_halves_unique κs a x y e f p q = (p.1.next ∙ sym q.1.next, p.1.is ∙ sym q.1.is)

pub put_words_unique : DeterminesBoth (λ κs e. e.1.0) put-words.Learnt
put_words_unique κs a x y e f p q = (p.1.next ∙ sym q.1.next, p.1.is ∙ sym q.1.is)

-- at each type of numbers
pub of_unique : (T laws copies number numbered clone cloned : _) → Determines (of.Learnt T laws copies number numbered clone cloned)
of_unique T laws copies number numbered clone cloned κs a x y e f p q = p ∙ sym q

pub short_unique : Determines short.Learnt
short_unique κs a x y e f p q = p ∙ sym q

-- as `DeterminesBoth` has it, of a slice of counts
pub count_unique : (κs : _) (a : _) (x y : _) (e f : _) → count.Learnt κs a x e → count.Learnt κs a y f → (x ≡ y) × (e.0.now ≡ f.0.now)
count_unique κs a x y e f p q = (p.1.0 ∙ sym q.1.0, p.1.1 ∙ sym q.1.1)

pub told_unique : Determines told.Learnt
told_unique κs a x y e f p q = p ∙ sym q
