-- What a struct's field says of the ranges that it holds. Assumes nothing.
use Prim.Native.Nat.{ℕ}
use mathlib.Core.Path.{◌≡◌, sym, ◌∙◌}
use mathlib.Core.List.{List, map}
use lib.ListN.{length, length-map}
use Rattle.run_ranges.specs.contracts.AsciiRange as AsciiRange-type
use Rattle.run_ranges.specs.declared.AsciiRange.{AsciiRange}

-- a field that is an array of ranges has as many ranges as it says
pub four_ranges : (l : List AsciiRange) (n : ℕ) → length (map (AsciiRange-type.the_field).into l) ≡ n → length l ≡ n
four_ranges l n e = sym (length-map l (AsciiRange-type.the_field).into) ∙ e
