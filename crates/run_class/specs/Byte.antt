-- The class of a byte (document 01, "Lookups").
use Rattle.std.specs.Prelude.{ℕ, zero, suc, Bool, ◌&&◌, ◌||◌, List, [], ◌∷◌, eqb, leb}
use Rattle.refusal.specs.Lists.{pick}
use Rattle.run_class.specs.declared.ByteClass.{ByteClass}
use Rattle.run_class.specs.declared.ByteClass.TheVariants as byte

-- b is from low to high
abbrev pub within : ℕ → ℕ → ℕ → Bool
within low high b = leb low b && leb b high

-- digits are 0 to 9; letters A to Z and a to z, of which A to F and a to f are hex letters
abbrev pub is_digit : ℕ → Bool
is_digit b = within 48 57 b

abbrev pub is_hex_letter : ℕ → Bool
is_hex_letter b = within 65 70 b || within 97 102 b

abbrev pub is_letter : ℕ → Bool
is_letter b = within 65 90 b || within 97 122 b

-- "whitespace is 9, 10, 12, 13, 32"
abbrev pub is_whitespace : ℕ → Bool
is_whitespace b = eqb b 9 || eqb b 10 || eqb b 12 || eqb b 13 || eqb b 32

abbrev pub is_underscore : ℕ → Bool
is_underscore b = eqb b 95

abbrev pub is_quote : ℕ → Bool
is_quote b = eqb b 39

abbrev pub is_dollar : ℕ → Bool
is_dollar b = eqb b 36

-- "The class of a byte is a decision by its value's ranges": "digits, hex letters, other letters, whitespace values, underscore, quote, dollar"
unfoldable pub byte_class : ℕ → ByteClass
byte_class b =
    pick (is_digit b) byte.Digit
    (pick (is_hex_letter b) byte.HexLetter
    (pick (is_letter b) byte.Letter
    (pick (is_whitespace b) byte.Whitespace
    (pick (is_underscore b) byte.Underscore (pick (is_quote b) byte.Quote (pick (is_dollar b) byte.Dollar byte.Other))))))

-- the classes by number, in that order
abbrev pub byte_number : ByteClass → ℕ
byte_number byte.Digit = 0
byte_number byte.HexLetter = 1
byte_number byte.Letter = 2
byte_number byte.Whitespace = 3
byte_number byte.Underscore = 4
byte_number byte.Quote = 5
byte_number byte.Dollar = 6
byte_number byte.Other = 7

-- the n numbers from b on
unfoldable pub up_from : ℕ → ℕ → List ℕ
up_from b zero = []
up_from b (suc n) = b ∷ up_from (suc b) n
