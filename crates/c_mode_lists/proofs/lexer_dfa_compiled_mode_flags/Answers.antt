-- The answer in C is what the call says, case by case.
use Rattle.c_mode_lists.proofs.Calls.{looking}
use Rattle.c_mode_lists.proofs.lexer_dfa_compiled_mode_flags.Goals as goal

pub shape_of-out : goal.shape_of-out
shape_of-out c = search looking

pub returns : goal.returns
returns c = search looking
