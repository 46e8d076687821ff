-- The words of the records behind i stand.
use Rattle.list_masks.proofs.Columns.{Columning}
use Rattle.list_masks.proofs.put_columns.Given as goal

abbrev pub invariant-loop-i : goal.invariant-loop-i
invariant-loop-i l = Columning l.list l.n l.segments l.count l.initial.out l.i l.out
