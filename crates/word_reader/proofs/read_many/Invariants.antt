-- What is left, read from here, gives what all gives.
use mathlib.Core.Path.{◌≡◌}
use Prim.Native.Nat.{◌-◌}
use Rattle.word_reader.specs.Parse.{many}
use Rattle.word_reader.proofs.read_many.Given as goal

abbrev pub invariant-loop : goal.invariant-loop
invariant-loop g l = many (g.R.Record.record_at l.kind l.words) (l.count - l.counter) l.here ≡ many (g.R.Record.record_at l.kind l.words) l.count l.at
