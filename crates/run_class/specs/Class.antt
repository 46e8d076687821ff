-- The class of the ranges of a kind-5 run (document 01, "Lookups").
use Rattle.std.specs.Prelude.{ℕ, suc, ◌-◌, Bool, ◌&&◌, ◌||◌, Option, Some, None, Result, Ok, Err, List, [], ◌∷◌, ◌++◌, eqb, length, get_or}
use Rattle.refusal.specs.Lists.{pick, some, every}
use Rattle.refusal.specs.Said.{Said, ok, refusal_at, no_by, FIELD}
use Rattle.refusal.specs.declared.Refusal.{Refusal}
use Rattle.run_ranges.specs.Ranges.{listed, ranges_of_run}
use Rattle.run_ranges.specs.declared.AsciiRange.{AsciiRange}
use Rattle.run_ranges.specs.declared.AsciiRanges.{AsciiRanges}
use Rattle.run_class.specs.Byte.{is_digit, is_hex_letter, is_letter, is_whitespace, is_underscore, is_quote, is_dollar, up_from}
use Rattle.run_class.specs.declared.AsciiRangeClass.{AsciiRangeClass}
use Rattle.run_class.specs.declared.AsciiRangeClass.TheVariants as ranges

-- the bytes of a range, from its low to its high, and those of ranges
abbrev pub bytes_in : AsciiRange → List ℕ
bytes_in r = up_from r.low (suc r.high - r.low)

unfoldable pub bytes_of : List AsciiRange → List ℕ
bytes_of [] = []
bytes_of (r ∷ rs) = bytes_in r ++ bytes_of rs

-- "hex digits, `_` or `'`"
abbrev pub in_number : ℕ → Bool
in_number b = is_digit b || is_hex_letter b || is_underscore b || is_quote b

-- "letters, digits, `_` or `$`"
abbrev pub in_identifier : ℕ → Bool
in_identifier b = is_letter b || is_digit b || is_underscore b || is_dollar b

-- "All whitespace; else a digit present and only hex digits, `_` or `'`: number;
-- else a letter present and only letters, digits, `_` or `$`: identifier; else other."
unfoldable pub class_of : List ℕ → AsciiRangeClass
class_of bytes =
    pick (every is_whitespace bytes) ranges.Whitespace
    (pick (some is_digit bytes && every in_number bytes) ranges.Number
    (pick (some is_letter bytes && every in_identifier bytes) ranges.Identifier ranges.Other))

abbrev pub range_class : List AsciiRange → AsciiRangeClass
range_class rs = class_of (bytes_of rs)

-- the classes by number, in that order
abbrev pub class_number : AsciiRangeClass → ℕ
class_number ranges.Whitespace = 0
class_number ranges.Number = 1
class_number ranges.Identifier = 2
class_number ranges.Other = 3

-- ranges that are a good list have a class; where there are none, the words are no kind-5 run: "anything else is FIELD", at place 0
abbrev pub class_of_ranges : Option AsciiRanges → Result AsciiRangeClass Refusal
class_of_ranges (Some r) = Ok (range_class (listed r))
class_of_ranges None = Err (refusal_at FIELD 0)

-- "Called alone, .. class [takes] the three words of a kind-5 run"
unfoldable pub class_of_words : List ℕ → Result AsciiRangeClass Refusal
class_of_words words =
    pick (eqb (length words) 3) (class_of_ranges (ranges_of_run (get_or words 0 0) (record { first = get_or words 1 0; second = get_or words 2 0 })))
    (Err (refusal_at FIELD 0))

-- an answer is a class's number, or a refusal
abbrev pub said : Result AsciiRangeClass Refusal → Said
said (Ok c) = ok (class_number c ∷ [])
said (Err r) = no_by r

abbrev pub class_said : List ℕ → Said
class_said words = said (class_of_words words)
