-- The words behind k, with the bits that they are to have, and those before it, are the whole column.
use Rattle.list_masks.specs.Walk.{Tells}
use Rattle.list_masks.specs.Record.{transition_of}
use Rattle.list_masks.proofs.Columns.{Filling}
use Rattle.list_masks.proofs.add_column.Given as goal

abbrev pub invariant-loop-k : goal.invariant-loop-k
invariant-loop-k l =
    Filling (transition_of l.rec) l.segments l.count l.initial.out l.k l.out
    × Tells (transition_of l.rec) l.rec.tag l.span.floor l.span.low l.span.high
