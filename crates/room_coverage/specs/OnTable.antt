-- Coverage of a table: "how many code points from 0 to 1,114,111 are not dead in a given state". t is the table, s a state. Assumes nothing.
use Rattle.std.specs.Prelude.{ℕ, [], ◌∷◌, ltb, length}
use Rattle.refusal.specs.Said.{Said, ok, no, STATE}
use Rattle.refusal.specs.Lists.{pick}
use Rattle.law_tables.specs.Table.{Table}
use Rattle.law_lookups.specs.Looks.{char_target_of}
use Rattle.room_coverage.specs.Coverage.{not_dead, count}

-- each of the code points is asked for its target
abbrev pub coverage_on : Table → ℕ → Said
coverage_on t s = pick (ltb s (length t.states)) (ok (count (λ x. not_dead (char_target_of t s x)) 1114112 ∷ [])) (no STATE 0)
