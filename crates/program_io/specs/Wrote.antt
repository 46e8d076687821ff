-- Writing onto a `Page`. Assumes nothing.
use Rattle.std.specs.Prelude.{ℕ, List}
use Rattle.program_io.specs.Shown.{Shown}
use Rattle.program_io.specs.declared.Page.{Page}

-- xs was written onto a page, behind what was written before
abbrev pub Wrote : {N : ℕ} → List ℕ → Page N → Page N → Type 0
Wrote xs old new = Shown xs old.at old.bytes new.at new.bytes
