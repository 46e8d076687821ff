-- The header of a room (docs/ARCHITECTURE.md, "The room"): its first nine numbers, behind which the words stand. Assumes nothing.
use Rattle.std.specs.Prelude.{ℕ, List, get_or}

-- number 0 is how many words there are
abbrev pub WORD-COUNT : ℕ
WORD-COUNT = 0

-- numbers 1 to 8 say where the sections start
abbrev pub MODES-START : ℕ
MODES-START = 1

abbrev pub STATES-START : ℕ
STATES-START = 2

abbrev pub RUNS-START : ℕ
RUNS-START = 3

abbrev pub ASCII-START : ℕ
ASCII-START = 4

abbrev pub WIDE-START : ℕ
WIDE-START = 5

abbrev pub ACCEPTS-START : ℕ
ACCEPTS-START = 6

abbrev pub ESCAPES-START : ℕ
ESCAPES-START = 7

abbrev pub CONTINUATIONS-START : ℕ
CONTINUATIONS-START = 8

abbrev pub HEADER-NUMBERS : ℕ
HEADER-NUMBERS = 9

abbrev pub word_count : List ℕ → ℕ
word_count d = get_or d WORD-COUNT 0
