-- The first record's bit, and twice the word of the others. The measure is how many records are left.
use Rattle.list_masks.proofs.+word_of.Given as goal

abbrev pub decreases-word_of : goal.decreases-word_of
decreases-word_of l = l.n
