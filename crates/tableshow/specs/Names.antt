-- How symbols, code points, ranges and targets are named on a page. Assumes nothing.
use Rattle.std.specs.Prelude.{ℕ, ◌+◌, ◌/◌, ◌%◌, List, [], ◌∷◌, ltb}
use Rattle.refusal.specs.Fixed.{ESCAPE-STATE, DEAD-STATE}
use Rattle.refusal.specs.Lists.{pick}
use Rattle.program_io.specs.Decimal.{number}
use Rattle.tableshow.specs.declared.rows.Kind.{Kind}
use Rattle.tableshow.specs.declared.rows.Kind.TheVariants.{Target, Continuation}
use Rattle.tableshow.specs.Joined.{joined, if_less, if_same}
use Rattle.tableshow.specs.Texts.{space, tab, newline, return_sign, hex, code_point, dots, arrow, escape_target, dead_target, to_continuation}

-- the last hexadecimal digit of a number
unfoldable pub hex_digit : ℕ → ℕ
hex_digit x = pick (ltb (x % 16) 10) (48 + x % 16) (55 + x % 16)

-- its last two, and its last four
abbrev pub two : ℕ → List ℕ
two x = hex_digit (x / 16) ∷ hex_digit x ∷ []

abbrev pub four : ℕ → List ℕ
four x = hex_digit (x / 4096) ∷ hex_digit (x / 256) ∷ hex_digit (x / 16) ∷ hex_digit x ∷ []

-- an ASCII symbol: in quotes where it can be seen
abbrev pub quoted : ℕ → List ℕ
quoted x = 39 ∷ x ∷ 39 ∷ []

abbrev pub hexed : ℕ → List ℕ
hexed x = joined (hex ∷ two x ∷ [])

abbrev pub blank : ℕ → List ℕ
blank x = if_same x 32 space (if_same x 9 tab (if_same x 10 newline (if_same x 13 return_sign (hexed x))))

abbrev pub symbol : ℕ → List ℕ
symbol x = if_less x 33 (blank x) (if_less x 127 (quoted x) (hexed x))

-- what stands before the last four digits of a code point: nothing, one digit, two, or four (no code point has seven digits, but a range may reach that far)
abbrev pub front : ℕ → List ℕ
front x = if_less x 1 [] (if_less x 16 (hex_digit x ∷ []) (if_less x 256 (two x) (four x)))

-- a code point: an ASCII symbol, or `U+` and at least four digits
abbrev pub point : ℕ → List ℕ
point x = if_less x 128 (symbol x) (joined (code_point ∷ front (x / 65536) ∷ four x ∷ []))

abbrev pub range : ℕ → ℕ → List ℕ
range low high = if_same low high (point low) (joined (point low ∷ dots ∷ point high ∷ []))

-- where an edge leads: to a target, the escape and the dead state by name, or to a continuation
abbrev pub target : Kind → ℕ → List ℕ
target Target t = if_same t ESCAPE-STATE escape_target (if_same t DEAD-STATE dead_target (joined (arrow ∷ number t ∷ [])))
target Continuation t = joined (to_continuation ∷ number t ∷ [])
