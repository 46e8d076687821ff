-- What the code keeps of the bytes that it has seen. Only private functions promise something by these words.
use Rattle.std.specs.Prelude.{ℕ, Bool, true, false, ◌&&◌, ◌||◌, List}
use Rattle.refusal.specs.Lists.{pick, some, every}
use Rattle.run_class.specs.Byte.{is_digit, is_letter, is_whitespace}
use Rattle.run_class.specs.Class.{in_number, in_identifier}
use Rattle.run_class.specs.declared.Seen.{Seen}
use Rattle.run_class.specs.declared.ByteClass.{ByteClass}
use Rattle.run_class.specs.declared.ByteClass.TheVariants.{Digit, HexLetter, Letter, Whitespace, Underscore, Quote, Dollar, Other}
use Rattle.run_class.specs.declared.AsciiRangeClass.{AsciiRangeClass}
use Rattle.run_class.specs.declared.AsciiRangeClass.TheVariants as ranges

-- a digit present, a letter present, all whitespace, all of a number, all of an identifier
abbrev pub flags : Bool → Bool → Bool → Bool → Bool → Seen
flags digit alpha whitespace number identifier =
    record {
      any_digit = digit;
      any_alpha = alpha;
      all_whitespace = whitespace;
      all_number = number;
      all_identifier = identifier;
    }

-- what there is to see in the bytes
unfoldable pub seen_in : List ℕ → Seen
seen_in bytes = flags (some is_digit bytes) (some is_letter bytes) (every is_whitespace bytes) (every in_number bytes) (every in_identifier bytes)

-- what a byte of a class says
abbrev pub facts_of : ByteClass → Seen
facts_of Digit = flags true false false true true
facts_of HexLetter = flags false true false true true
facts_of Letter = flags false true false false true
facts_of Whitespace = flags false false true false false
facts_of Underscore = flags false false false true true
facts_of Quote = flags false false false true false
facts_of Dollar = flags false false false false true
facts_of Other = flags false false false false false

-- what was seen in two places together
unfoldable pub both : Seen → Seen → Seen
both a b =
    flags
    (a.any_digit || b.any_digit)
    (a.any_alpha || b.any_alpha)
    (a.all_whitespace && b.all_whitespace)
    (a.all_number && b.all_number)
    (a.all_identifier && b.all_identifier)

-- the class that the flags give
unfoldable pub decided : Seen → AsciiRangeClass
decided s =
    pick s.all_whitespace ranges.Whitespace
    (pick (s.any_digit && s.all_number) ranges.Number
    (pick (s.any_alpha && s.all_identifier) ranges.Identifier ranges.Other))
