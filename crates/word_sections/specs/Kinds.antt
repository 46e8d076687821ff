-- The record of each kind (document 01, "Words of a table", 2 to 9). Assumes nothing.
use Rattle.std.specs.Prelude.{ℕ, List}
use Rattle.word_reader.specs.Parse.{Place}
use Rattle.word_reader.specs.Records.{mode_at, state_at, run_at, ascii_at, wide_at, accept_at, escape_at, continuation_at}
use Rattle.word_sections.specs.declared.Kind.{Kind}
use Rattle.word_sections.specs.declared.Kind.TheVariants.{Mode, State, AsciiRun, AsciiRow, WideRow, Accept, EscapeRow, Continuation}

-- where the record that stands at a place ends, or why there is none
abbrev pub record_at : Kind → List ℕ → ℕ → Place
record_at Mode = mode_at
record_at State = state_at
record_at AsciiRun = run_at
record_at AsciiRow = ascii_at
record_at WideRow = wide_at
record_at Accept = accept_at
record_at EscapeRow = escape_at
record_at Continuation = continuation_at
