-- What is counted. Assumes nothing.
use Rattle.std.specs.Prelude.{ℕ, ◌+◌, ◌++◌, ◌%◌, ◌^◌, Bool, List, codes, decimal, flat_map, length, nat_lt, slice_index, slice_index_or, slice_set, zip, Option, Some, None}
use Rattle.refusal.specs.Lists.{pick}
use Rattle.replay_io.specs.declared.tally.Counts.{Counts}
use Rattle.replay_io.specs.declared.tally.Replayed.{Replayed}
use Rattle.replay_io.specs.declared.tally.Report.{Report}

-- one answer more that is equal, or that differs; a count has 64 bits
abbrev pub one_more : Counts → Bool → Counts
one_more before same =
    pick same (record { equal = (before.equal + 1) % 2 ^ 64; differ = before.differ }) (record { equal = before.equal; differ = (before.differ + 1) % 2 ^ 64 })

-- a record that is not whole takes no bytes, and is not counted
abbrev pub taken : Replayed → List ℕ → Option ℕ
taken replayed rest = pick (nat_lt replayed.more (length rest)) (Some (1 + replayed.more)) None

-- of a kind of which none was counted
abbrev pub none : Counts
none = record { equal = 0; differ = 0 }

-- where a kind has no place, nothing is counted
abbrev pub added : List Counts → ℕ → Bool → List Counts
added counts kind same = slice_set counts kind (one_more (slice_index_or counts kind none) same)

abbrev pub counted : Replayed → List ℕ → List Counts → List Counts
counted replayed rest counts = pick (nat_lt replayed.more (length rest)) (added counts (slice_index rest 0) replayed.same) counts

-- how many answers of a kind are equal, or differ: none of a kind that has no place
abbrev pub told : List Counts → ℕ → Bool → ℕ
told counts kind same = pick same (slice_index_or counts kind none).equal (slice_index_or counts kind none).differ

-- "N equal, M differ"
abbrev pub counts_text : Counts → List ℕ
counts_text c = decimal c.equal ++ codes " equal, " ++ decimal c.differ ++ codes " differ"

-- "N equal, M differ: NAME"
abbrev pub line : Counts → List ℕ → List ℕ
line c name = counts_text c ++ codes ": " ++ name ++ codes "\n"

-- "A of B bytes", and a line for each kind that has counts and a name
abbrev pub report_text : Report → List ℕ
report_text r = decimal r.at ++ codes " of " ++ decimal r.bytes ++ codes " bytes\n" ++ flat_map (λ p. line p.0 p.1.now) (zip r.counts.now r.names.now)
