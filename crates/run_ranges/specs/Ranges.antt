-- Ranges of ASCII symbols (document 01, "Words of a table", 4, and "Classification"). Assumes nothing.
use Rattle.std.specs.Prelude.{ℕ, suc, Option, Some, None, ◌+◌, ◌-◌, ◌*◌, ◌/◌, ◌%◌, Bool, true, false, not, ◌&&◌, ◌||◌, List, [], ◌∷◌, ◌++◌, eqb, leb, length, get_or, take, drop, replicate}
use Rattle.refusal.specs.Lists.{pick}
use Rattle.run_ranges.specs.declared.AsciiRange.{AsciiRange}
use Rattle.run_ranges.specs.declared.AsciiRanges.{AsciiRanges}
use Rattle.run_ranges.specs.declared.PackedRanges.{PackedRanges}

-- both ends included
abbrev pub range : ℕ → ℕ → AsciiRange
range low high = record { low = low; high = high }

-- The ranges on which a row loops: "symbols not looping on the state are exits", "the maximal looping ranges"

-- a target loops on the state where it is the state; else its symbol is an exit
abbrev pub loops_at : ℕ → ℕ → Bool
loops_at state target = eqb target state

abbrev pub exits_at : ℕ → ℕ → Bool
exits_at state target = not (eqb target state)

-- a looping symbol put before the ranges behind it: it joins the range that starts at the next symbol, or is one of its own
unfoldable pub joined : ℕ → List AsciiRange → List AsciiRange
joined symbol [] = range symbol symbol ∷ []
joined symbol (r ∷ rs) = pick (eqb r.low (suc symbol)) (range symbol r.high ∷ rs) (range symbol symbol ∷ r ∷ rs)

-- the maximal ranges of the symbols that loop on the state; the row's first target is that of the symbol
unfoldable pub ranges_from : ℕ → ℕ → List ℕ → List AsciiRange
ranges_from state symbol [] = []
ranges_from state symbol (t ∷ ts) = pick (loops_at state t) (joined symbol (ranges_from state (suc symbol) ts)) (ranges_from state (suc symbol) ts)

-- of a whole row; a row has 128 targets, and any other list has no ranges
unfoldable pub loop_ranges : ℕ → List ℕ → List AsciiRange
loop_ranges state row = pick (eqb (length row) 128) (ranges_from state 0 row) []

-- How the code holds ranges: the first `count` of four places, the others 0

-- places that hold no range: the count is 0, and so is every place
abbrev pub no_ranges : AsciiRanges
no_ranges = record { ranges = replicate 4 (range 0 0); count = 0 }

-- up to four ranges; no range where there are more
unfoldable pub up_to_four : List AsciiRange → AsciiRanges
up_to_four rs = pick (leb (length rs) 4) (record { ranges = rs ++ replicate (4 - length rs) (range 0 0); count = length rs }) no_ranges

-- the ranges, if there are 1 to 4 of them
unfoldable pub one_to_four : List AsciiRange → Option AsciiRanges
one_to_four rs = pick (leb 1 (length rs) && leb (length rs) 4) (Some (up_to_four rs)) None

-- the ranges that count
abbrev pub listed : AsciiRanges → List AsciiRange
listed r = take r.count r.ranges

-- A good list: "Each low is at most its high, highs at most 127, each high + 1 below the next low, unused places 0"

-- a range that starts at `least` or later
abbrev pub follows : ℕ → AsciiRange → Bool
follows least r = leb least r.low && leb r.low r.high && leb r.high 127

unfoldable pub ordered : ℕ → List AsciiRange → Bool
ordered least [] = true
ordered least (r ∷ rs) = follows least r && ordered (r.high + 2) rs

abbrev pub is_zero : AsciiRange → Bool
is_zero r = eqb r.low 0 && eqb r.high 0

unfoldable pub unused : List AsciiRange → Bool
unused [] = true
unused (r ∷ rs) = is_zero r && unused rs

-- "the count 1 to 4"
unfoldable pub good_ranges : ℕ → List AsciiRange → Bool
good_ranges count rs = leb 1 count && (leb count 4 && (ordered 0 (take count rs) && unused (drop count rs)))

-- the ranges if they are a good list, else none
unfoldable pub checked : ℕ → List AsciiRange → Option AsciiRanges
checked count rs = pick (good_ranges count rs) (Some (record { ranges = rs; count = count })) None

-- Packed: "two more words holding ranges as low, high bytes, least byte first", so that a half of a word holds a range

abbrev pub range_in : ℕ → AsciiRange
range_in half = range (half % 256) (half / 256 % 256)

abbrev pub unpacked : PackedRanges → List AsciiRange
unpacked w = range_in (w.first % 65536) ∷ range_in (w.first / 65536) ∷ range_in (w.second % 65536) ∷ range_in (w.second / 65536) ∷ []

abbrev pub half_of : AsciiRange → ℕ
half_of r = r.low + 256 * r.high

abbrev pub half_at : List AsciiRange → ℕ → ℕ
half_at rs i = half_of (get_or rs i (range 0 0))

abbrev pub packed_of : List AsciiRange → PackedRanges
packed_of rs = record { first = half_at rs 0 + 65536 * half_at rs 1; second = half_at rs 2 + 65536 * half_at rs 3 }

-- "Kind 5: second byte the count 1 to 4, upper half 0, then two more words": its ranges, or none where the three words are no such run
unfoldable pub ranges_of_run : ℕ → PackedRanges → Option AsciiRanges
ranges_of_run kind w = pick (eqb (kind % 256) 5 && leb kind 65535) (checked (kind / 256) (unpacked w)) None

-- Scanned: ranges stop at a byte that is in none of them

abbrev pub in_range : AsciiRange → ℕ → Bool
in_range r b = leb r.low b && leb b r.high

unfoldable pub in_ranges : List AsciiRange → ℕ → Bool
in_ranges [] b = false
in_ranges (r ∷ rs) b = in_range r b || in_ranges rs b

abbrev pub outside : List AsciiRange → ℕ → Bool
outside rs b = not (in_ranges rs b)

-- What the scan's private functions say of a place: its range, or one that holds nothing where it does not count
abbrev pub used_if : Bool → AsciiRange → AsciiRange
used_if isUsed r = pick isUsed r (range 1 0)
