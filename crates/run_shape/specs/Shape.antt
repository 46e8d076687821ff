-- What a run is, and how the code holds it. Assumes nothing.
use Rattle.std.specs.Prelude.{ℕ, List, [], ◌∷◌, Result, Ok, Err}
use Rattle.refusal.specs.declared.Refusal.{Refusal}
use Rattle.refusal.specs.Said.{Said, ok, refusal_at, no_by}
use Rattle.run_ranges.specs.declared.AsciiRange.{AsciiRange}
use Rattle.run_ranges.specs.Ranges.{up_to_four, listed}
use Rattle.run_shape.specs.declared.AsciiRun.{AsciiRun}
use Rattle.run_shape.specs.declared.AsciiRun.TheVariants as runs

-- The shape of a run: none; any; until one of its exits; the bytes of its ranges.
pub data Shape : Type 0 where
  none : Shape
  any : Shape
  until : List ℕ → Shape
  ranges : List AsciiRange → Shape

-- the shape that a run stands for
abbrev pub shape : AsciiRun → Shape
shape runs.None = none
shape runs.Any = any
shape (runs.Until1 a) = until (a ∷ [])
shape (runs.Until2 a b) = until (a ∷ b ∷ [])
shape (runs.Until3 a b c) = until (a ∷ b ∷ c ∷ [])
shape (runs.Ranges r) = ranges (listed r)

-- a shape as the code holds it; until-runs have one to three exits
unfoldable pub held : Shape → AsciiRun
held none = runs.None
held any = runs.Any
held (until []) = runs.None
held (until (a ∷ [])) = runs.Until1 a
held (until (a ∷ b ∷ [])) = runs.Until2 a b
held (until (a ∷ b ∷ c ∷ [])) = runs.Until3 a b c
held (until (a ∷ b ∷ c ∷ d ∷ es)) = runs.None
held (ranges rs) = runs.Ranges (up_to_four rs)

-- What classification and reading give: a run, or a refusal.
abbrev pub Got : Type 0
Got = Result AsciiRun Refusal

-- no run, but the refusal of that number, at that place
abbrev pub refused : ℕ → ℕ → Got
refused n p = Err (refusal_at n p)

-- the kind's number and its exits, as document 01 has them
abbrev pub kind_said : AsciiRun → Said
kind_said runs.None = ok (0 ∷ [])
kind_said runs.Any = ok (1 ∷ [])
kind_said (runs.Until1 a) = ok (2 ∷ a ∷ [])
kind_said (runs.Until2 a b) = ok (3 ∷ a ∷ b ∷ [])
kind_said (runs.Until3 a b c) = ok (4 ∷ a ∷ b ∷ c ∷ [])
kind_said (runs.Ranges r) = ok (5 ∷ [])

abbrev pub got_said : Got → Said
got_said (Ok r) = kind_said r
got_said (Err r) = no_by r
