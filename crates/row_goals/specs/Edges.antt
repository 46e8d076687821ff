-- What row building asks of one range. One definition for both kinds of row, e says which: an escape row, or one of targets. Assumes nothing.
use Rattle.std.specs.Prelude.{ℕ, Bool}
use Rattle.refusal.specs.Lists.{pick}
use Rattle.refusal.specs.Fixed.{NONE, DEAD-STATE}

-- the goal of a segment that is left out
abbrev pub no_goal : Bool → ℕ
no_goal e = pick e NONE DEAD-STATE

-- where a row begins: "parts at 128"
abbrev pub first_of : Bool → ℕ
first_of e = pick e 0 128
