-- By the law of every loop that shows: the symbols that are left, shown from here, give what all of them give.
use Rattle.tableshow.proofs.Parts.{Edging}
use Rattle.tableshow.proofs.rows.put_edges.Given as goal

abbrev pub invariant-loop-symbol : goal.invariant-loop-symbol
invariant-loop-symbol l = Edging l.room l.state l.count l.initial.page.at l.initial.page.bytes l.symbol l.low l.items l.to l.page.at l.page.bytes
