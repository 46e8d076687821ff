-- The words of a run (document 01, "Words of a table", 4): read at a place, and written. Assumes nothing.
use Rattle.std.specs.Prelude.{ℕ, ◌+◌, ◌*◌, ◌-◌, ◌/◌, ◌%◌, Bool, Option, Some, None, Ok, Err, ◌&&◌, List, [], ◌∷◌, eqb, leb, ltb, length, get_or, take, drop}
use Rattle.refusal.specs.Said.{SHORT, FIELD}
use Rattle.refusal.specs.Lists.{pick, every}
use Rattle.run_ranges.specs.declared.AsciiRanges.{AsciiRanges}
use Rattle.run_ranges.specs.declared.PackedRanges.{PackedRanges}
use Rattle.run_ranges.specs.Ranges.{ranges_of_run, packed_of}
use Rattle.run_shape.specs.declared.AsciiRun.{AsciiRun}
use Rattle.run_shape.specs.declared.AsciiRun.TheVariants as runs
use Rattle.run_shape.specs.declared.RunWords.{RunWords}
use Rattle.run_shape.specs.Shape.{none, any, until, held, Got, refused}

abbrev pub is_zero : ℕ → Bool
is_zero x = eqb x 0

abbrev pub is_ascii : ℕ → Bool
is_ascii x = ltb x 128

-- the run where the test holds, else FIELD
unfoldable pub or_field : ℕ → Bool → AsciiRun → Got
or_field at b r = pick b (Ok r) (refused FIELD at)

-- 0 none; 1 any; 2, 3, 4 until with that many exits less one in the next bytes, each below 128; unused bytes 0
unfoldable pub short_run : ℕ → ℕ → List ℕ → Got
short_run at kind bytes =
    pick (eqb kind 0) (or_field at (every is_zero bytes) (held none))
    (pick (eqb kind 1) (or_field at (every is_zero bytes) (held any))
    (pick (leb kind 4)
    (or_field at (every is_ascii (take (kind - 1) bytes) && every is_zero (drop (kind - 1) bytes)) (held (until (take (kind - 1) bytes))))
    (refused FIELD at)))

-- low byte is the kind; the bytes behind it, least first
abbrev pub kind_of : ℕ → ℕ
kind_of word = word % 256

abbrev pub bytes_of : ℕ → List ℕ
bytes_of word = word / 256 % 256 ∷ word / 65536 % 256 ∷ word / 16777216 ∷ []

-- kind 5: the ranges of three words, if they are good
abbrev pub ranges_run : ℕ → Option AsciiRanges → Got
ranges_run at (Some r) = Ok (runs.Ranges r)
ranges_run at None = refused FIELD at

abbrev pub packed_at : List ℕ → ℕ → PackedRanges
packed_at w at = record { first = get_or w at 0; second = get_or w (at + 1) 0 }

-- a kind-5 run reads its three words before FIELD; SHORT returns the word count
unfoldable pub read_at : List ℕ → ℕ → Got
read_at w at =
    pick (ltb at (length w))
    (pick (eqb (kind_of (get_or w at 0)) 5)
    (pick (leb (at + 3) (length w)) (ranges_run at (ranges_of_run (get_or w at 0) (packed_at w (at + 1)))) (refused SHORT (length w)))
    (short_run at (kind_of (get_or w at 0)) (bytes_of (get_or w at 0))))
    (refused SHORT (length w))

-- how many words a run has
abbrev pub size_of : AsciiRun → ℕ
size_of runs.None = 1
size_of runs.Any = 1
size_of (runs.Until1 a) = 1
size_of (runs.Until2 a b) = 1
size_of (runs.Until3 a b c) = 1
size_of (runs.Ranges r) = 3

abbrev pub alone_in : List ℕ → Got → Got
alone_in w (Ok r) = pick (eqb (length w) (size_of r)) (Ok r) (refused FIELD 0)
alone_in w (Err r) = refused FIELD 0

-- the words of one run and no more; anything else is FIELD
abbrev pub read_alone : List ℕ → Got
read_alone w = alone_in w (read_at w 0)

abbrev pub one_word : ℕ → RunWords
one_word word = record { length = 1; first = word; second = 0; third = 0 }

-- the words of a run
abbrev pub words_of_run : AsciiRun → RunWords
words_of_run runs.None = one_word 0
words_of_run runs.Any = one_word 1
words_of_run (runs.Until1 a) = one_word (2 + 256 * a)
words_of_run (runs.Until2 a b) = one_word (3 + 256 * a + 65536 * b)
words_of_run (runs.Until3 a b c) = one_word (4 + 256 * a + 65536 * b + 16777216 * c)
words_of_run (runs.Ranges r) = record { length = 3; first = 5 + 256 * r.count; second = (packed_of r.ranges).first; third = (packed_of r.ranges).second }
