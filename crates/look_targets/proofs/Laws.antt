-- The laws of the targets: where an ascii row lies. Assumes nothing.
use Prim.Native.Nat.{ℕ, ◌+◌, ◌*◌, ◌/◌, ◌^◌, ◌<◌, ◌≤◌}
use native.Mathlib.Omega.{arith}
use mathlib.Core.Path.{◌≡◌, sym, ◌∙◌}
use mathlib.Core.List.{List}
use lib.ListN.{length}
use mir.Syntax.{w64}
use mir.Val.{Fits}
use Rattle.std.specs.Prelude.{Result, Ok}
use Rattle.room_find.specs.declared.Missing.{Missing}
use Rattle.refusal.specs.Header.{ASCII-START}
use Rattle.room_find.proofs.Records.{record_at_in_room, ofstate, oflist}
use Rattle.look_row.proofs.Searches.{row_missed}
use Rattle.look_targets.specs.Targets.{ascii_row_at}

-- a symbol's word lies in its row, and the row in the room
module _ (w : List ℕ) (row : ℕ) {p : ℕ} {got : Result ℕ Missing} (g : got ≡ ascii_row_at w row) (e : got ≡ Ok p) where
  whole : p + 64 ≤ length w
  unfolding ascii_row_at
  whole = record_at_in_room w ASCII-START 64 row (sym g ∙ e)

  pub symbol-word : (x : ℕ) → x < 128 → p + x / 2 < length w
  symbol-word x h = omega (arith, whole)

  pub symbol-index : (x : ℕ) → x < 128 → length w * 4 < 2 ^ 63 → Fits w64 (p + x / 2)
  symbol-index x h l = record { fits = omega (arith, whole) }

-- where what is found lies, and that a search that gives nothing led outside
pub ruleset chain = (ofstate, oflist, symbol-word, symbol-index, row_missed)
