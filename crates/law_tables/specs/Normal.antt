-- A table with its flags made 0 or 1: document 01, "A flag is any word; nonzero means set". Assumes nothing.
use Rattle.std.specs.Prelude.{map}
use Rattle.room_fill.specs.Room.{flag}
use Rattle.law_tables.specs.Table.{Table, Accept, Config, Continuation}

abbrev pub normal_accept : Accept → Accept
normal_accept x = record { rule = x.rule; consumed = flag x.consumed; actions = x.actions }

abbrev pub normal_config : Config → Config
normal_config x = record { state = x.state; rule = x.rule; flag = flag x.flag; other = flag x.other; context = x.context; actions = x.actions }

abbrev pub normal_continuation : Continuation → Continuation
normal_continuation x = record { contexts = x.contexts; configs = map normal_config x.configs }

unfoldable pub normal : Table → Table
normal t = record {
  modes = t.modes;
  states = t.states;
  runs = t.runs;
  ascii = t.ascii;
  wide = t.wide;
  accepts = map normal_accept t.accepts;
  escapes = t.escapes;
  continuations = map normal_continuation t.continuations;
}
