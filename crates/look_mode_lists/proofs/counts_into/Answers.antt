use Rattle.look_mode_lists.proofs.Answers.{listing}
use Rattle.look_mode_lists.proofs.counts_into.Goals as goal

pub returns-then-out-compiled_count : goal.returns-then-out-compiled_count
returns-then-out-compiled_count c = search listing

pub returns-in-Some : goal.returns-in-Some
returns-in-Some c = search listing

pub put_counts-requires : goal.put_counts-requires
put_counts-requires c = search listing

pub returns : goal.returns
returns c = search listing
