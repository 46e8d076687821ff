-- By the law of every loop that shows: the numbers that are left, written from here, give what all of them give.
use Rattle.std.proofs.Common.{drop}
use Rattle.refusal.specs.Lists.{each}
use Rattle.program_io.proofs.Shows.{Coming}
use Rattle.tableread.specs.Line.{spaced}
use Rattle.tableread.proofs.line.put_numbers.Given as goal

abbrev pub invariant-loop-number : goal.invariant-loop-number
invariant-loop-number l = Coming (each spaced l.numbers) l.initial.line.at l.initial.line.bytes (each spaced (drop l.number-index l.numbers)) l.line.at l.line.bytes
