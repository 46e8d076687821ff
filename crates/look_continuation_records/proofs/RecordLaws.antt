-- The laws of what is told of a continuation's record: its numbers lie in the room, and how to go on from it. Assumes nothing.
use Prim.Native.Nat.{ℕ, ◌+◌, ◌*◌, ◌^◌, ◌<◌, ◌≤◌}
use native.Mathlib.Omega.{arith}
use mathlib.Core.Path.{◌≡◌, sym, ◌∙◌}
use mathlib.Core.List.{List}
use lib.ListN.{length}
use mir.Syntax.{w64}
use mir.Val.{Fits}
use Rattle.std.specs.Prelude.{Result, Ok}
use Rattle.room_find.specs.declared.Missing.{Missing}
use Rattle.room_find.proofs.Records.{oflist}
use Rattle.look_continuation_records.specs.declared.Whole.{Whole}
use Rattle.look_continuation_records.specs.Configs.{whole_at}
use Rattle.look_continuation_records.proofs.WholeLaws.{contexts_before, context_missed, configs_missed, lies}

-- `got` is what the code found
module _ (w : List ℕ) (i : ℕ) {t : Whole} {got : Result Whole Missing} (g : got ≡ whole_at w i) (k : got ≡ Ok t) where
  pub contexts_count : t.contexts < length w
  contexts_count = let l = lies w i (sym g ∙ k) in omega (arith, l.contexts, l.configs, l.inside)

  pub contexts_bytes : length w * 4 < 2 ^ 63 → Fits w64 (t.contexts * 4)
  contexts_bytes h = let l = lies w i (sym g ∙ k) in record { fits = omega (arith, l.contexts, l.configs, l.inside) }

  pub contexts_first : length w * 4 < 2 ^ 63 → Fits w64 (t.contexts + 1)
  contexts_first h = let l = lies w i (sym g ∙ k) in record { fits = omega (arith, l.contexts, l.configs, l.inside) }

  pub contexts_part : t.contexts + 1 ≤ t.configs
  contexts_part = (lies w i (sym g ∙ k)).contexts

  pub configs_count : t.configs < length w
  configs_count = let l = lies w i (sym g ∙ k) in omega (arith, l.configs, l.inside)

  pub configs_bytes : length w * 4 < 2 ^ 63 → Fits w64 (t.configs * 4)
  configs_bytes h = let l = lies w i (sym g ∙ k) in record { fits = omega (arith, l.configs, l.inside) }

  pub configs_first : length w * 4 < 2 ^ 63 → Fits w64 (t.configs + 1)
  configs_first h = let l = lies w i (sym g ∙ k) in record { fits = omega (arith, l.configs, l.inside) }

  pub configs_part : t.configs + 1 ≤ t.end
  configs_part = (lies w i (sym g ∙ k)).configs

-- where what is found lies, and that what is refused leads outside
pub ruleset telling = (
  oflist,
  contexts_before,
  context_missed,
  configs_missed,
  contexts_count,
  contexts_bytes,
  contexts_first,
  contexts_part,
  configs_count,
  configs_bytes,
  configs_first,
  configs_part,
)
