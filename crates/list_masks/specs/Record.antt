-- The transition of a record that stands in an accepted list. Assumes nothing.
use Rattle.std.specs.Prelude.{length}
use Rattle.list_transitions.specs.Transition.{Transition}
use Rattle.list_transitions.specs.Bytes.{trans_of}
use Rattle.list_masks.specs.declared.records.Record.{Record}

abbrev pub transition_of : Record → Transition
transition_of r = trans_of r.value.now r.tag (length r.value.now) 0
