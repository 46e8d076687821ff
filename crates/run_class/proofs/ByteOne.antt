-- No two classes of a byte have one number. Assumes nothing.
use Prim.Native.Nat.{ℕ}
use mathlib.Core.Path.{◌≡◌, refl, sym, ap, ◌∙◌}
use mathlib.Core.List.{[], ◌∷◌}
use lib.ListN.{get_or}
use Rattle.run_class.specs.Byte.{byte_number}
use Rattle.run_class.specs.declared.ByteClass.{ByteClass}
use Rattle.run_class.specs.declared.ByteClass.TheVariants.{Digit, HexLetter, Letter, Whitespace, Underscore, Quote, Dollar, Other}

abbrev byte_back : ℕ → ByteClass
byte_back n = get_or (Digit ∷ HexLetter ∷ Letter ∷ Whitespace ∷ Underscore ∷ Quote ∷ Dollar ∷ []) n Other

byte-said : (k : ByteClass) → byte_back (byte_number k) ≡ k
byte-said Digit = refl
byte-said HexLetter = refl
byte-said Letter = refl
byte-said Whitespace = refl
byte-said Underscore = refl
byte-said Quote = refl
byte-said Dollar = refl
byte-said Other = refl

pub byte_one : (j k : ByteClass) → byte_number j ≡ byte_number k → j ≡ k
byte_one j k e = sym (byte-said j) ∙ ap byte_back e ∙ byte-said k
