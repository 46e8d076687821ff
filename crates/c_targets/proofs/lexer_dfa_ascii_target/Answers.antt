-- The answer in C is what the call says, case by case.
use Rattle.c_value.proofs.Calls.{looking}
use Rattle.c_targets.proofs.lexer_dfa_ascii_target.Goals as goal

pub ascii_target-requires : goal.ascii_target-requires
ascii_target-requires c = search looking

pub value_in_c-requires : goal.value_in_c-requires
value_in_c-requires c = search looking

pub returns : goal.returns
returns c = search looking
