-- The tests are made in document 01's order, and what is left are whole words, which are decoded.
use Rattle.program_io.proofs.Taken.{judging}
use Rattle.program_io.proofs.read_table.Goals as goal

pub returns-then-whole-gt-MAX_WORDS : goal.returns-then-whole-gt-MAX_WORDS
returns-then-whole-gt-MAX_WORDS c = search judging

pub returns-then-bytes-gt0 : goal.returns-then-bytes-gt0
returns-then-bytes-gt0 c = search judging

pub returns : goal.returns
returns c = search judging
