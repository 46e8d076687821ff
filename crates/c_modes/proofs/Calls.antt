-- What the C face answers of modes and of the count of states follows from what the lookup says. Assumes nothing.
use mathlib.Core.Path.{◌≡◌}
use mathlib.Core.Bool.{Bool, true, false}
use mir.Val.{bool_byte}
use Rattle.std.specs.Prelude.{Result, Ok}
use Rattle.room_find.specs.declared.Missing.{Missing}
use Rattle.look_modes.specs.Modes.{compiled_said}
use Rattle.c_value.specs.Value.{answer, value_in_c}
use Rattle.c_value.proofs.Calls.{value_in_c_lem}

-- each case of an answer, in C
pub compiled-some : {a : Result Bool Missing} {b : Bool} → a ≡ Ok b → answer (bool_byte b) ≡ value_in_c (compiled_said a)
compiled-some {b = true} e = rw e
compiled-some {b = false} e = rw e

pub ruleset looking = (value_in_c_lem, compiled-some)
