-- The room of a table: a header of nine numbers, the words with flags made 0 or 1, and where each record of variable length starts.
-- Below, w are the words, and s the places of the counts of their sections. Assumes nothing.
use Rattle.std.specs.Prelude.{ℕ, zero, suc, ◌+◌, ◌*◌, ◌-◌, List, [], ◌∷◌, ◌++◌, length, get_or, take, drop, eqb, map, Ok, Err}
use Rattle.refusal.specs.Lists.{pick, each}
use Rattle.refusal.specs.Header.{HEADER-NUMBERS}
use Rattle.word_reader.specs.Parse.{Place}
use Rattle.word_reader.specs.Records.{run_at, wide_at, accept_at, escape_at, config_at, continuation_at}
use Rattle.word_reader.specs.declared.Sections.{Sections}
use Rattle.word_layout.specs.Layout.{Layout}
use Rattle.buffer.specs.Over.{zeros, padded}

-- Records, one behind the other

-- where each of n records starts
unfoldable pub starts_from : Place → ℕ → (ℕ → List ℕ) → List ℕ
starts_from (Ok p) at k = at ∷ k p
starts_from (Err r) at k = []

unfoldable pub starts : (ℕ → Place) → ℕ → ℕ → List ℕ
starts f zero at = []
starts f (suc n) at = starts_from (f at) at (starts f n)

-- n words from a place
unfoldable pub copied : List ℕ → ℕ → ℕ → List ℕ
copied w at n = take n (drop at w)

-- "A flag is any word; nonzero means set": 0 or 1
unfoldable pub flag : ℕ → ℕ
flag x = pick (eqb x 0) 0 1

-- The words, with flags made 0 or 1

-- a section whose count stands at `at`: its count, and what is written for each record
unfoldable pub renewed : (List ℕ → ℕ → Place) → (List ℕ → ℕ → List ℕ) → List ℕ → ℕ → List ℕ
renewed read f w at = get_or w at 0 ∷ each (f w) (starts (read w) (get_or w at 0) (at + 1))

-- an accept: its rule, its flag, its actions with their count
unfoldable pub accept_made : List ℕ → ℕ → List ℕ
accept_made w s = get_or w s 0 ∷ flag (get_or w (s + 1) 0) ∷ copied w (s + 2) (get_or w (s + 2) 0 * 3 + 1)

-- a config: its state and rule, its two flags, its context, its actions with their count
unfoldable pub config_made : List ℕ → ℕ → List ℕ
config_made w s =
    get_or w s 0 ∷ get_or w (s + 1) 0 ∷ flag (get_or w (s + 2) 0) ∷ flag (get_or w (s + 3) 0) ∷ copied w (s + 4) (get_or w (s + 5) 0 * 3 + 2)

-- a continuation: its contexts with their count, as they are, and its configs
unfoldable pub continuation_made : List ℕ → ℕ → List ℕ
continuation_made w s = copied w s (get_or w s 0 * 3 + 1) ++ renewed config_at config_made w (s + (get_or w s 0 * 3 + 1))

-- all sections: only accepts and continuations have flags
abbrev pub later_made : List ℕ → Sections → List ℕ
later_made w s = copied w s.escapes (s.continuations - s.escapes) ++ renewed continuation_at continuation_made w s.continuations

abbrev pub made : List ℕ → Sections → List ℕ
made w s = copied w 0 s.accepts ++ (renewed accept_at accept_made w s.accepts ++ later_made w s)

-- Places in the room: the words stand behind the header

-- the place p of the words, as it is in the room
abbrev pub in_room : ℕ → ℕ
in_room p = p + HEADER-NUMBERS

abbrev pub shifted : ℕ → List ℕ
shifted p = in_room p ∷ []

-- where the records of a section start
unfoldable pub placed : (List ℕ → ℕ → Place) → List ℕ → ℕ → List ℕ
placed read w at = each shifted (starts (read w) (get_or w at 0) (at + 1))

-- the places of the sections' counts
abbrev pub eight : Sections → List ℕ
eight s = s.modes ∷ s.states ∷ s.runs ∷ s.ascii ∷ s.wide ∷ s.accepts ∷ s.escapes ∷ s.continuations ∷ []

-- the word count, and where the sections' counts stand
unfoldable pub header : List ℕ → Sections → List ℕ
header w s = length w ∷ map in_room (eight s)

-- where the accepts, the escape rows and the continuations start
abbrev pub later_places : List ℕ → Sections → List ℕ
later_places w s = placed accept_at w s.accepts ++ (placed escape_at w s.escapes ++ placed continuation_at w s.continuations)

-- and before them the runs and the wide rows
abbrev pub places : List ℕ → Sections → List ℕ
places w s = placed run_at w s.runs ++ (placed wide_at w s.wide ++ later_places w s)

-- all numbers of a table
abbrev pub numbers : List ℕ → Sections → List ℕ
numbers w s = header w s ++ (made w s ++ places w s)

-- What filling leaves in a room of n numbers, by what was found

-- "Refused: all outputs zero. Accepted: outputs past the answer's length zero."
unfoldable pub room_for : List ℕ → ℕ → Layout → List ℕ
room_for w n (Ok s) = padded n (numbers w s)
room_for w n (Err r) = zeros n
