-- The lines written so far, with those of what is left, are all lines.
use Rattle.std.proofs.Common.{◌≡◌, ℕ, List, ◌++◌, flat_map, zip}
use Rattle.std.specs.Fmt.{HasWritten, IsPlainFormatter}
use Rattle.replay_io.specs.Tally.{line}
use Rattle.replay_io.proofs.tally.ReportDisplay.fmt.Given as goal

abbrev pub invariant-loop-told : goal.invariant-loop-told
invariant-loop-told g l =
    IsPlainFormatter l.initial.f → (w : List ℕ) × HasWritten g.W.Write.write_str_gives l.initial.f w l.f
    × (w ++ flat_map (λ p. line p.0 p.1.now) (zip l.told-iterator.a.rest.now l.told-iterator.b.rest.now)
    ≡ flat_map (λ p. line p.0 p.1.now) (zip l.self.counts.now l.self.names.now))
