-- By the law of every loop that shows: what is left of the text, shown from here, gives what all of it gives.
use Rattle.std.proofs.Common.{drop}
use Rattle.program_io.proofs.Shows.{Coming}
use Rattle.program_io.proofs.put_text.Given as goal

abbrev pub invariant-loop-byte : goal.invariant-loop-byte
invariant-loop-byte l = Coming l.text l.n l.initial.page (drop l.byte-index l.text) l.m l.page
